-- The bids of a sincere bidder block by block, from the last block on, for the proofs.
--     last_leaving pair limits      the price at which the first block of such a list leaves
--     is_last price next      the block before does not leave at the price
--     block_bids product past pair limits      a bid for each block before which none
--         leaves at its price
use Rattle.std.specs.Prelude.{ℕ, ◌+◌, ◌==◌, not, Bool, true, List, [], ◌∷◌, ◌++◌, length, Option}
use Rattle.std.specs.Prelude.{Some, None, if◌then◌else◌}
use Rattle.clock_terms.specs.declared.prices.PricePair.{PricePair}
use Rattle.clock_bids.specs.declared.sheet.Bid.{Bid}
use Rattle.clock_scripts.specs.Sincere.{leaving_price, bid_for}

-- the price at which the first block leaves
abbrev pub last_leaving : PricePair → List ℕ → Option ℕ
last_leaving pair [] = None
last_leaving pair (limit ∷ limits) = leaving_price pair limit

-- the block before does not leave at the price
abbrev pub is_last : ℕ → Option ℕ → Bool
is_last price None = true
is_last price (Some next) = not (next == price)

-- the bid at the price at which a block leaves, where the block before does not leave there
abbrev pub block_bid : ℕ → ℕ → Option ℕ → Option ℕ → List Bid
block_bid product before None next = []
block_bid product before (Some price) next =
    if is_last price next then bid_for product before price ∷ [] else []

-- the bids of all blocks, the last one first; `past` blocks of the demand are past the limits
abbrev pub block_bids : ℕ → ℕ → PricePair → List ℕ → List Bid
block_bids product past pair [] = []
block_bids product past pair (limit ∷ limits) = block_bid product (past + length limits)
    (leaving_price pair limit) (last_leaving pair limits) ++ block_bids product past pair limits
