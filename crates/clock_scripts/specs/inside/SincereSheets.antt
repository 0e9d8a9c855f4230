-- The sheet of a sincere bidder in the first round, and in each other.
--     first_sheet prices limits      the bids of the first round, in which there is no
--         processed demand
--     later_sheet prices demands limits      those of a later one
use Rattle.std.specs.Prelude.{ℕ, List, flat_map, length, slice_index}
use Rattle.std.specs.List.{range_with_len}
use Rattle.clock_terms.specs.declared.prices.PricePair.{PricePair}
use Rattle.clock_terms.specs.Prices.{prices_at}
use Rattle.clock_terms.specs.Demands.{row_of}
use Rattle.clock_bids.specs.declared.sheet.Bid.{Bid}
use Rattle.clock_scripts.specs.Sincere.{opening_bids, later_bids}

-- the bids for a product in the first round
abbrev pub first_bids : List PricePair → List (List ℕ) → ℕ → List Bid
first_bids prices limits product =
    opening_bids product (prices_at prices product) (row_of limits product)

-- the bids for a product in a later round
abbrev pub bids_held : List PricePair → List ℕ → List (List ℕ) → ℕ → List Bid
bids_held prices demands limits product = later_bids product (prices_at prices product)
    (slice_index demands product) (row_of limits product)

abbrev pub first_sheet : List PricePair → List (List ℕ) → List Bid
first_sheet prices limits = flat_map (first_bids prices limits) (range_with_len 0 (length prices))

abbrev pub later_sheet : List PricePair → List ℕ → List (List ℕ) → List Bid
later_sheet prices demands limits =
    flat_map (bids_held prices demands limits) (range_with_len 0 (length prices))
