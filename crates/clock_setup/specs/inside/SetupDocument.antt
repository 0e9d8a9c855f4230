-- The checks of a set-up in four parts, as the code makes them.
--     range_check i test      the range fault of a place, with the test of its value
--     head_checks setup      the values before the products
--     counted_checks fault most checks items      the number of items, then each item
--     products_checks products, bidders_checks bidders      the products, and the bidders
--     distinct_checks setup      the names, and the tokens
use Rattle.std.specs.Prelude.{ℕ, Bool, List, [], ◌∷◌, length}
use Rattle.clock_terms.specs.declared.setup.Product.{Product}
use Rattle.clock_terms.specs.declared.setup.Bidder.{Bidder}
use Rattle.clock_setup.specs.declared.fault.Place.{Place}
use Rattle.clock_setup.specs.declared.fault.Place.TheVariants.{Requirement, Limit, Operator}
use Rattle.clock_setup.specs.declared.fault.Place.TheVariants.{Products, Bidders}
use Rattle.clock_setup.specs.declared.fault.SetupFault.{SetupFault}
use Rattle.clock_setup.specs.declared.fault.SetupFault.TheVariants.{Range, DuplicateName}
use Rattle.clock_setup.specs.declared.fault.SetupFault.TheVariants.{DuplicateToken}
use Rattle.clock_terms.specs.Limits.{SetupFields, is_within, is_token}
use Rattle.clock_terms.specs.Limits.{least_requirement, most_requirement, least_limit, most_limit}
use Rattle.clock_terms.specs.Limits.{most_products, most_bidders}
use Rattle.clock_terms.specs.Faults.{in_turn}
use Rattle.clock_setup.specs.SetupDocument.{product_checks, bidder_checks, has_distinct_names}
use Rattle.clock_setup.specs.SetupDocument.{has_distinct_tokens}

-- the range fault of a place, with the test of its value; its number in a list of tests is not used
abbrev pub range_check : ℕ → Place × Bool → List (SetupFault × Bool)
range_check i test = (Range test.0, test.1) ∷ []

-- the values before the products: requirement, limit, and operator
unfoldable pub head_checks : SetupFields → List (SetupFault × Bool)
head_checks setup =
    (Range Requirement, is_within least_requirement most_requirement setup.requirement)
    ∷ (Range Limit, is_within least_limit most_limit setup.limit)
    ∷ (Range Operator, is_token setup.operator)
    ∷ []

-- the number of items is 1 to `most`, then the checks of each item in turn
abbrev pub counted_checks : {A : Type 0} → SetupFault → ℕ → (ℕ → A → List (SetupFault × Bool))
    → List A → List (SetupFault × Bool)
counted_checks fault most checks items =
    (fault, is_within 1 most (length items)) ∷ in_turn checks 0 items

-- the number of products, then each product
unfoldable pub products_checks : List Product → List (SetupFault × Bool)
products_checks products = counted_checks (Range Products) most_products product_checks products

-- the number of bidders, then each bidder
unfoldable pub bidders_checks : List Bidder → List (SetupFault × Bool)
bidders_checks bidders = counted_checks (Range Bidders) most_bidders bidder_checks bidders

-- distinct names, then distinct tokens
unfoldable pub distinct_checks : SetupFields → List (SetupFault × Bool)
distinct_checks setup =
    (DuplicateName, has_distinct_names setup) ∷ (DuplicateToken, has_distinct_tokens setup) ∷ []
