-- Parts of the rules on sheets, with names for proofs.
--     checks_of_bids products prices demands bids      the checks of all bids in turn
--     is_for_product products bid, is_within_cap products bid      the product exists, and the
--         quantity is at most its cap
--     is_in_prices prices bid      the price is from the start-of-round price to the clock price
--     is_above_prices chain bid      the price is above that of each bid of a chain
--     distance a b      the difference of two numbers
--     changes_of_chain bidder product prices held chain      the requests of the bids for one
--         product
--     drop_to_zero bidder product prices held      the request for a product without a bid
use Rattle.std.specs.Prelude.{ℕ, ◌+◌, ◌-◌, not, ◌==◌, map, filter, List, [], ◌∷◌, Bool, nat_lt}
use Rattle.std.specs.Prelude.{nat_le, if◌then◌else◌, length, take}
use Rattle.std.specs.List.{list_all}
use Rattle.clock_terms.specs.declared.change.Change.{Change}
use Rattle.clock_terms.specs.declared.prices.PricePair.{PricePair}
use Rattle.clock_terms.specs.declared.setup.Product.{Product}
use Rattle.clock_terms.specs.Limits.{cap_of, is_within}
use Rattle.clock_terms.specs.Prices.{prices_at}
use Rattle.clock_terms.specs.Faults.{in_turn}
use Rattle.clock_bids.specs.declared.sheet.Bid.{Bid}
use Rattle.clock_bids.specs.declared.sheet.BidFault.{BidFault}
use Rattle.clock_bids.specs.Sheet.{bid_checks}
use Rattle.clock_bids.specs.Changes.{change_to, links_from}

-- the checks of all bids, in the order of the bids
abbrev pub checks_of_bids : List Product → List PricePair → List ℕ → List Bid
    → List (BidFault × Bool)
checks_of_bids products prices demands bids =
    in_turn (λ i bid. bid_checks products prices demands (take i bids) i bid) 0 bids

-- the product exists
abbrev pub is_for_product : List Product → Bid → Bool
is_for_product products bid = nat_lt bid.product (length products)

-- the price is from the start-of-round price to the clock price
abbrev pub is_in_prices : List PricePair → Bid → Bool
is_in_prices prices bid =
    is_within (prices_at prices bid.product).start (prices_at prices bid.product).clock bid.price

-- the quantity is at most the cap
abbrev pub is_within_cap : List Product → Bid → Bool
is_within_cap products bid = nat_le bid.quantity (cap_of products bid.product)

-- the price is above that of each bid of a chain
abbrev pub is_above_prices : List Bid → Bid → Bool
is_above_prices chain bid = list_all (λ other. nat_lt other.price bid.price) chain

-- the difference of two numbers, either way round
abbrev pub distance : ℕ → ℕ → ℕ
distance a b = (a - b) + (b - a)

-- the request to reduce the processed demand to 0 at the start-of-round price, if it is positive
abbrev pub drop_to_zero : ℕ → ℕ → PricePair → ℕ → List Change
drop_to_zero bidder product prices held =
    if nat_lt 0 held then change_to bidder product prices 0 held 0 prices.start ∷ [] else []

-- the requests of a chain: each bid's difference from the one before, the first one's from the
-- processed demand
abbrev pub changes_of_chain : ℕ → ℕ → PricePair → ℕ → List Bid → List Change
changes_of_chain bidder product prices held chain = map (λ link.
    change_to bidder product prices link.place link.before link.bid.quantity link.bid.price)
    (filter (λ link. not (link.before == link.bid.quantity)) (links_from 0 held chain))
