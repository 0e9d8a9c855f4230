-- The pages of the operator.
--     closed_value round ended      the reply to a closing that was accepted
--     closed_bytes round ended      that page, byte for byte
--     result_in house bidder      a bidder's line of the results
--     results_value house      each bidder's demands and eligibility; only this page shows them all
use Rattle.std.specs.Prelude.{ℕ, List, [], ◌∷◌, ◌++◌, Bool, length, codes, decimal}
use Rattle.std.specs.List.{range_with_len}
use Rattle.serde_json.specs.Data.{Data, boolean, string}
use Rattle.clock_bids.specs.Holding.{Holding}
use Rattle.clock_house.specs.History.{bidder_at}
use Rattle.clock_house.specs.House.{HouseFields, state_in, holding_in}
use Rattle.clock_views.specs.Values.{whole, list_of, object_of, true_or_false}

-- the reply to a closing: its round, and whether the auction ends with it
unfoldable pub closed_value : ℕ → Bool → Data
closed_value round ended = object_of (("closed", whole round) ∷ ("ended", boolean ended) ∷ [])

-- a bidder's line in the results: its processed demands, eligibility, and name
unfoldable pub result_value : List ℕ → Holding → Data
result_value name held = object_of (
    ("demands", list_of whole held.demands) ∷ ("eligibility", whole held.eligibility)
    ∷ ("name", string name) ∷ [])

-- the line of a bidder of this house
abbrev pub result_in : HouseFields → ℕ → Data
result_in house bidder = result_value (bidder_at house.setup bidder).name (holding_in house bidder)

-- the results: bidders in the order of the set-up
unfoldable pub results_value : HouseFields → Data
results_value house = object_of (
    ("bidders", list_of (result_in house) (range_with_len 0 (length house.setup.bidders))) ∷
    ("ended", boolean (state_in house).ended) ∷
    ("round", whole (state_in house).round) ∷ [])

-- the reply to a closing, byte for byte
abbrev pub closed_bytes : ℕ → Bool → List ℕ
closed_bytes round ended =
    codes "{\"closed\":" ++ decimal round ++ codes ",\"ended\":" ++ true_or_false ended ++ codes "}"
