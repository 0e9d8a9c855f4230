-- The JSON value of a set-up: a document with this value means this set-up. Keys are in ascending
-- order, as in every object that was read.
--     added version n      a number that documents have from version 2
--     product_data version product, bidder_data bidder      a product and a bidder
--     products_data version products, bidders_data bidders      the lists of them
--     setup_data setup      the whole document
--     product_fields, bidder_fields, setup_fields      the keys of an object, each with its value
--         if there is one
use Rattle.std.specs.Prelude.{ℕ, List, [], ◌∷◌, ◌==◌, map, Option, Some, None, option_map}
use Rattle.std.specs.Prelude.{if◌then◌else◌, codes}
use Rattle.serde_json.specs.Data.{Data, string, array, object}
use Rattle.clock_json.specs.Reading.{whole_number, items_in, Fields, found_members}
use Rattle.clock_terms.specs.declared.setup.Product.{Product}
use Rattle.clock_terms.specs.declared.setup.Bidder.{Bidder}
use Rattle.clock_terms.specs.Limits.{SetupFields}

-- a number that documents have from version 2
abbrev pub added : ℕ → ℕ → Option ℕ
added version n = if version == 1 then None else Some n

-- the keys of a product, each with its value if there is one
abbrev pub product_fields : Option ℕ → Option ℕ → Option (List ℕ) → Option ℕ
    → Option ℕ → Option ℕ → Fields
product_fields cap granule name opening supply units =
    (codes "cap", option_map whole_number cap)
    ∷ (codes "granule", option_map whole_number granule)
    ∷ (codes "name", option_map string name)
    ∷ (codes "opening", option_map whole_number opening)
    ∷ (codes "supply", option_map whole_number supply)
    ∷ (codes "units", option_map whole_number units)
    ∷ []

-- the JSON value of a product
abbrev pub product_data : ℕ → Product → Data
product_data version product =
    object (found_members (product_fields (Some product.cap) (added version product.granule)
    (Some product.name) (Some product.opening) (Some product.supply) (Some product.units)))

-- the keys of a bidder, each with its value if there is one
abbrev pub bidder_fields : Option ℕ → Option (List ℕ) → Option (List ℕ) → Fields
bidder_fields eligibility name token =
    (codes "eligibility", option_map whole_number eligibility)
    ∷ (codes "name", option_map string name)
    ∷ (codes "token", option_map string token)
    ∷ []

-- the JSON value of a bidder
abbrev pub bidder_data : Bidder → Data
bidder_data bidder = object
    (found_members (bidder_fields (Some bidder.eligibility) (Some bidder.name) (Some bidder.token)))

-- the JSON value of a list of products
abbrev pub products_data : ℕ → List Product → Data
products_data version products = array (items_in (map (product_data version) products))

-- the JSON value of a list of bidders
abbrev pub bidders_data : List Bidder → Data
bidders_data bidders = array (items_in (map bidder_data bidders))

-- the keys of a set-up, each with its value if there is one
abbrev pub setup_fields : Option Data → Option ℕ → Option (List ℕ) → Option Data
    → Option ℕ → Option ℕ → Fields
setup_fields bidders limit operator products requirement version =
    (codes "bidders", bidders)
    ∷ (codes "limit", option_map whole_number limit)
    ∷ (codes "operator", option_map string operator)
    ∷ (codes "products", products)
    ∷ (codes "requirement", option_map whole_number requirement)
    ∷ (codes "version", option_map whole_number version)
    ∷ []

-- the JSON value of a set-up
abbrev pub setup_data : SetupFields → Data
setup_data setup = object (found_members (setup_fields (Some (bidders_data setup.bidders))
    (added setup.version setup.limit) (Some setup.operator) (Some
    (products_data setup.version setup.products)) (Some setup.requirement) (Some setup.version)))
