-- What a set-up document means: its set-up, or its first fault. Format and order of checks are our
-- own.
--     product_checks i product, bidder_checks i bidder      the limits of one product and of one
--         bidder, in order
--     has_distinct_names setup, has_distinct_tokens setup      no name and no token is used twice
--     setup_checks setup      the limits of a set-up, in order
--     setup_of value      what a JSON value means as a set-up
--     document_setup bytes      what bytes mean as a set-up
use Rattle.std.specs.Prelude.{ℕ, Bool, ◌&&◌, List, [], ◌∷◌, ◌++◌, map, length, nat_le}
use Rattle.std.specs.Prelude.{if◌then◌else◌, Result, Ok, Err, codes}
use Rattle.serde_json.specs.Data.{Data}
use Rattle.clock_money.specs.Price.{highest_price}
use Rattle.clock_terms.specs.declared.setup.Product.{Product}
use Rattle.clock_terms.specs.declared.setup.Bidder.{Bidder}
use Rattle.clock_setup.specs.declared.fault.Place.TheVariants.{Requirement, Limit, Operator}
use Rattle.clock_setup.specs.declared.fault.Place.TheVariants.{Products, Bidders}
use Rattle.clock_setup.specs.declared.fault.Place.TheVariants.{Name, Units, Supply, Cap, Opening}
use Rattle.clock_setup.specs.declared.fault.Place.TheVariants.{Granule, BidderName, Token}
use Rattle.clock_setup.specs.declared.fault.Place.TheVariants.{Eligibility}
use Rattle.clock_setup.specs.declared.fault.SetupFault.{SetupFault}
use Rattle.clock_setup.specs.declared.fault.SetupFault.TheVariants.{NotJson, Shape, Version, Range}
use Rattle.clock_setup.specs.declared.fault.SetupFault.TheVariants.{DuplicateName, DuplicateToken}
use Rattle.clock_terms.specs.Limits.{SetupFields, is_within, is_name, is_token, is_distinct}
use Rattle.clock_terms.specs.Limits.{latest_version, least_requirement, most_requirement}
use Rattle.clock_terms.specs.Limits.{least_limit, most_limit, most_products, most_bidders}
use Rattle.clock_terms.specs.Limits.{most_units, most_supply, most_granule, most_eligibility}
use Rattle.clock_json.specs.Tree.{json, number_at}
use Rattle.clock_setup.specs.SetupShape.{fields_from}
use Rattle.clock_terms.specs.Faults.{first_fault, in_turn, unless, or_fault, ◌>>=◌}

-- a product's name, units, supply, cap (at most the supply), opening price, and granule
unfoldable pub product_checks : ℕ → Product → List (SetupFault × Bool)
product_checks i product =
    (Range (Name i), is_name product.name)
    ∷ (Range (Units i), is_within 1 most_units product.units)
    ∷ (Range (Supply i), is_within 1 most_supply product.supply)
    ∷ (Range (Cap i), is_within 1 product.supply product.cap)
    ∷ (Range (Opening i), is_within 1 highest_price product.opening)
    ∷ (Range (Granule i), is_within 1 most_granule product.granule)
    ∷ []

-- a bidder's name, token, and eligibility
unfoldable pub bidder_checks : ℕ → Bidder → List (SetupFault × Bool)
bidder_checks i bidder =
    (Range (BidderName i), is_name bidder.name)
    ∷ (Range (Token i), is_token bidder.token)
    ∷ (Range (Eligibility i), nat_le bidder.eligibility most_eligibility)
    ∷ []

-- No two products have the same name, and no two bidders. A product and a bidder may have the same.
abbrev pub has_distinct_names : SetupFields → Bool
has_distinct_names setup = is_distinct (map (λ product. product.name) setup.products)
    && is_distinct (map (λ bidder. bidder.name) setup.bidders)

-- no two of the operator and the bidders have the same token
abbrev pub has_distinct_tokens : SetupFields → Bool
has_distinct_tokens setup =
    is_distinct (setup.operator ∷ map (λ bidder. bidder.token) setup.bidders)

-- The limits of a set-up in order: requirement, limit, and operator; products; bidders; distinct
-- names; distinct tokens.
unfoldable pub setup_checks : SetupFields → List (SetupFault × Bool)
setup_checks setup =
    (Range Requirement, is_within least_requirement most_requirement setup.requirement)
    ∷ (Range Limit, is_within least_limit most_limit setup.limit)
    ∷ (Range Operator, is_token setup.operator)
    ∷ (Range Products, is_within 1 most_products (length setup.products))
    ∷ (in_turn product_checks 0 setup.products
    ++ ((Range Bidders, is_within 1 most_bidders (length setup.bidders))
    ∷ (in_turn bidder_checks 0 setup.bidders
    ++ ((DuplicateName, has_distinct_names setup)
    ∷ (DuplicateToken, has_distinct_tokens setup)
    ∷ []))))

-- The checks in order: there is a number under "version", it is 1 or 2, the shape is that of the
-- version, and each limit is met.
unfoldable pub setup_of : Data → Result SetupFields SetupFault
setup_of value = do
  version ← or_fault Shape (number_at (codes "version") value)
  known ← if is_within 1 latest_version version then Ok version else Err Version
  setup ← or_fault Shape (fields_from value)
  unless (first_fault (setup_checks setup)) setup

-- The checks in order: the bytes are JSON (RFC 8259), and their value means a set-up.
unfoldable pub document_setup : List ℕ → Result SetupFields SetupFault
document_setup bytes = do
  value ← or_fault NotJson (json bytes)
  setup_of value
