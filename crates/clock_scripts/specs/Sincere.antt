-- The sheet of a sincere bidder, which has a list of limits for each product: element k is the
-- price up to which it wants block k, so that limits never rise. (Own rule.)
--     leaving_price pair limit, leaving_prices pair limits      the price at which a block leaves,
--         and all such prices, rising
--     staying held leaving price      how many blocks of the processed demand do not leave at
--         or below a price
--     wanted limits price      how many blocks are wanted at a price
--     opening_bids product pair limits      the bid for a product in the first round
--     later_bids product pair held limits      the bids for a product in a later round
--     sincere_sheet round prices demands limits      the whole sheet
use Rattle.std.specs.Prelude.{ℕ, ◌-◌, ◌==◌, max, nat_lt, nat_le, nat_eq, slice_index, Option, Some}
use Rattle.std.specs.Prelude.{None, if◌then◌else◌}
use Rattle.std.specs.Prelude.{List, [], ◌∷◌, length, map, reverse, take, flat_map, filter_map}
use Rattle.std.specs.Prelude.{count_by}
use Rattle.std.specs.List.{range_with_len, dedup}
use Rattle.clock_terms.specs.declared.prices.PricePair.{PricePair}
use Rattle.clock_terms.specs.Prices.{prices_at}
use Rattle.clock_terms.specs.Demands.{row_of}
use Rattle.clock_bids.specs.declared.sheet.Bid.{Bid}

-- a block whose limit is below the clock price leaves at its limit, or at the start price if the
-- limit is below that
abbrev pub leaving_price : PricePair → ℕ → Option ℕ
leaving_price pair limit = if nat_lt limit pair.clock then Some (max pair.start limit) else None

-- the prices at which blocks leave; limits never rise, so from the last block on these prices rise
abbrev pub leaving_prices : PricePair → List ℕ → List ℕ
leaving_prices pair limits = filter_map (leaving_price pair) (reverse limits)

-- how many blocks of the processed demand do not leave at or below a price
abbrev pub staying : ℕ → List ℕ → ℕ → ℕ
staying held leaving price = held - count_by (λ left. nat_le left price) leaving

-- a bid for a quantity of a product at a price
abbrev pub bid_for : ℕ → ℕ → ℕ → Bid
bid_for product quantity price = record { product = product; quantity = quantity; price = price }

-- a bid at each different leaving price, rising
abbrev pub leaving_bids : ℕ → ℕ → List ℕ → List Bid
leaving_bids product held leaving =
    map (λ price. bid_for product (staying held leaving price) price) (dedup nat_eq leaving)

-- if no block leaves, the bid to maintain demand
abbrev pub keeping_or_leaving : ℕ → PricePair → ℕ → List ℕ → List Bid
keeping_or_leaving product pair held [] = bid_for product held pair.clock ∷ []
keeping_or_leaving product pair held leaving = leaving_bids product held leaving

-- in a later round a product without processed demand has no bid
abbrev pub later_bids : ℕ → PricePair → ℕ → List ℕ → List Bid
later_bids product pair held limits = if held == 0 then []
    else keeping_or_leaving product pair held (leaving_prices pair (take held limits))

-- a bid for `quantity` blocks at a price, if there are any
abbrev pub bid_if_any : ℕ → ℕ → ℕ → List Bid
bid_if_any product price quantity =
    if quantity == 0 then [] else bid_for product quantity price ∷ []

-- how many blocks have a limit at or above a price
abbrev pub wanted : List ℕ → ℕ → ℕ
wanted limits price = count_by (λ limit. nat_le price limit) limits

-- in the first round the blocks that are wanted at the opening price
abbrev pub opening_bids : ℕ → PricePair → List ℕ → List Bid
opening_bids product pair limits = bid_if_any product pair.start (wanted limits pair.start)

-- the bids for a product of which the processed demand is `held` blocks
abbrev pub product_bids : ℕ → ℕ → PricePair → ℕ → List ℕ → List Bid
product_bids round product pair held limits =
    if round == 1 then opening_bids product pair limits else later_bids product pair held limits

-- the bids for a product at its prices, by the processed demand and the limits for it
abbrev pub bids_for : ℕ → List PricePair → List ℕ → List (List ℕ) → ℕ → List Bid
bids_for round prices demands limits product = product_bids round product (prices_at prices product)
    (slice_index demands product) (row_of limits product)

-- the bids for each product in turn
abbrev pub sincere_sheet : ℕ → List PricePair → List ℕ → List (List ℕ) → List Bid
sincere_sheet round prices demands limits =
    flat_map (bids_for round prices demands limits) (range_with_len 0 (length prices))
