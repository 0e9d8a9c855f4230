-- A bid, a tie-breaking number, and increments as the JSON values that the reader by bytes finds.
--     bid_fields      a bid's keys, each with what was found
--     bid_data, tie_data      a whole bid and a whole tie-breaking number, as values
--     single_of, listed_of      the increment for all products; the increments of each
use Rattle.std.specs.Prelude.{ℕ, List, [], ◌∷◌, Option, Some, None, option_map, codes}
use Rattle.serde_json.specs.Data.{Data, object}
use Rattle.clock_json.specs.Reading.{whole_number, numbers, Fields, found_members}
use Rattle.clock_bids.specs.declared.sheet.Bid.{Bid}
use Rattle.clock_order.specs.declared.ties.Tie.{Tie}
use Rattle.clock_terms.specs.declared.increments.Increments.{Increments}
use Rattle.clock_terms.specs.declared.increments.Increments.TheVariants.{Single, PerProduct}
use Rattle.clock_bodies.specs.declared.put_body.FoundBid.{FoundBid}

-- a bid's keys, each with what was found
abbrev pub bid_fields : FoundBid → Fields
bid_fields found =
    (codes "price", option_map whole_number found.price)
    ∷ (codes "product", option_map whole_number found.product)
    ∷ (codes "quantity", option_map whole_number found.quantity)
    ∷ []

-- a bid as a value
abbrev pub bid_data : Bid → Data
bid_data bid = object (found_members (bid_fields
    (record { price = Some bid.price; product = Some bid.product; quantity = Some bid.quantity })))

-- a tie-breaking number as a value
abbrev pub tie_data : Tie → Data
tie_data tie = numbers (tie.bidder ∷ tie.product ∷ tie.number ∷ [])

-- the increment for all products, if there is one
abbrev pub single_of : Increments → Option ℕ
single_of (Single increment) = Some increment
single_of (PerProduct increments) = None

-- the increments of each product, if there are such
abbrev pub listed_of : Increments → Option (List ℕ)
listed_of (Single increment) = None
listed_of (PerProduct increments) = Some increments
