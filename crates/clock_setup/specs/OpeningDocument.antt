-- What an opening document means: a set-up, each bidder's demands in round 1, and an increment; or
-- its first fault. Format and order of checks are our own.
--     has_counts setup demands      a row for each bidder, and a number for each product
--     demand_checks, row_checks      the checks of one demand, and of one bidder
--     opening_checks setup demands increment      the checks after the set-up, in order
--     opening_with setup demands increment      the opening with this set-up, or the first fault of
--         these
--     in_opening setup      a fault of the set-up as a fault of the opening
--     opening_of value      what a JSON value means as an opening
--     document_opening bytes      what bytes mean as an opening
use Rattle.std.specs.Prelude.{ℕ, Bool, ◌&&◌, ◌==◌, List, [], ◌∷◌, ◌++◌, length, zip, nat_le, Result}
use Rattle.std.specs.Prelude.{Ok, Err}
use Rattle.std.specs.List.{list_all}
use Rattle.serde_json.specs.Data.{Data}
use Rattle.clock_terms.specs.declared.setup.Product.{Product}
use Rattle.clock_terms.specs.declared.setup.Bidder.{Bidder}
use Rattle.clock_setup.specs.declared.fault.SetupFault.{SetupFault}
use Rattle.clock_setup.specs.declared.opening.Opening.{Opening}
use Rattle.clock_setup.specs.declared.opening.OpeningFault.{OpeningFault}
use Rattle.clock_setup.specs.declared.opening.OpeningFault.TheVariants.{NotJson, Shape, Setup}
use Rattle.clock_setup.specs.declared.opening.OpeningFault.TheVariants.{Demand, Activity, Increment}
use Rattle.clock_terms.specs.Limits.{SetupFields, is_within, least_increment, most_increment}
use Rattle.clock_terms.specs.Eligibility.{activity}
use Rattle.clock_terms.specs.Faults.{first_fault, in_turn, unless, or_fault, ◌>>=◌}
use Rattle.clock_json.specs.Tree.{json}
use Rattle.clock_setup.specs.SetupDocument.{setup_of}
use Rattle.clock_setup.specs.OpeningShape.{opening_parts}

-- a row for each bidder, and in each row a number for each product
abbrev pub has_counts : SetupFields → List (List ℕ) → Bool
has_counts setup demands = (length demands == length setup.bidders)
    && list_all (λ row. length row == length setup.products) demands

-- the demand is at most the product's cap
unfoldable pub demand_checks : ℕ → ℕ → Product × ℕ → List (OpeningFault × Bool)
demand_checks bidder product line = (Demand bidder product, nat_le line.1 line.0.cap) ∷ []

-- a bidder's demands by rising product, then its activity, which is at most its eligibility
unfoldable pub row_checks : List Product → ℕ → Bidder × List ℕ → List (OpeningFault × Bool)
row_checks products bidder line =
    in_turn (demand_checks bidder) 0 (zip products line.1)
    ++ ((Activity bidder, nat_le (activity products line.1) line.0.eligibility) ∷ [])

-- The number of rows and their lengths, then each bidder in turn, then the increment.
unfoldable pub opening_checks : SetupFields → List (List ℕ) → ℕ → List (OpeningFault × Bool)
opening_checks setup demands increment =
    (Shape, has_counts setup demands)
    ∷ (in_turn (row_checks setup.products) 0 (zip setup.bidders demands)
    ++ ((Increment, is_within least_increment most_increment increment)
    ∷ []))

-- the opening with this set-up, or the first fault of the checks after the set-up
abbrev pub opening_with : SetupFields → List (List ℕ) → ℕ → Result Opening OpeningFault
opening_with setup demands increment = unless (first_fault (opening_checks setup demands increment))
    (record { setup = setup; grid = demands; increment = increment })

-- a fault of the set-up is a fault of the opening
abbrev pub in_opening : Result SetupFields SetupFault → Result SetupFields OpeningFault
in_opening (Ok setup) = Ok setup
in_opening (Err fault) = Err (Setup fault)

-- The checks in order: the shape, the set-up, and the checks after it.
unfoldable pub opening_of : Data → Result Opening OpeningFault
opening_of value = do
  parts ← or_fault Shape (opening_parts value)
  setup ← in_opening (setup_of parts.setup)
  opening_with setup parts.demands parts.increment

-- The checks in order: the bytes are JSON (RFC 8259), and their value means an opening.
unfoldable pub document_opening : List ℕ → Result Opening OpeningFault
document_opening bytes = do
  value ← or_fault NotJson (json bytes)
  opening_of value
