-- The parts of a set-up and their limits. The limits are our own.
--     most_products, most_bidders, most_units, ..      the limits, each with its name
--     IsWithin low high n, is_within low high n      n is from low to high; the test of it
--     IsName, IsToken      the characters and lengths of names and tokens
--     is_name, is_token, is_distinct      the tests of IsName, IsToken, and AreDistinct
--     IsProduct, IsBidder      the limits of one product and of one bidder
--     SetupFields, PublicSetup      all parts of a set-up, and those that are public
--     IsOfFirstVersion      what a set-up of version 1 means
--     IsSetup      the limits of a whole set-up
--     cap_of, supply_of, units_of, granule_of products product      a value of one product
--     IsRow products demands      a demand for each product, none above its cap
use Rattle.std.specs.Prelude.{◌≡◌, ◌≢◌, ℕ, ◌≤◌, EachIndex, slice_index, List, [], ◌∷◌}
use Rattle.std.specs.Prelude.{slice_index_or, Bool, true}
use Rattle.std.specs.Prelude.{not, ◌&&◌, ◌||◌, nat_le, nat_eq, length, map, All}
use Rattle.std.specs.List.{AllPass, AllPairs, list_all, list_any}
use Rattle.std.specs.Str.{bytes_eq}
use Rattle.clock_money.specs.Price.{IsPrice}
pub use Rattle.clock_money.specs.Price.{IsWithin, most_granule, least_increment, most_increment}
use Rattle.clock_terms.specs.declared.setup.Product.{Product}
use Rattle.clock_terms.specs.declared.setup.Bidder.{Bidder}

-- A document is of version 1 or 2.
abbrev pub latest_version : ℕ
latest_version = 2

-- 1 to 4,096 products
abbrev pub most_products : ℕ
most_products = 4096

-- 1 to 512 bidders
abbrev pub most_bidders : ℕ
most_bidders = 512

-- the bidding units of one block: 1 to a million
abbrev pub most_units : ℕ
most_units = 1000000

-- the blocks of a product: 1 to 1,000
abbrev pub most_supply : ℕ
most_supply = 1000

-- an eligibility: at most 10^12 bidding units
abbrev pub most_eligibility : ℕ
most_eligibility = 1000000000000

-- The activity requirement is 50 to 100 percent of eligibility.
abbrev pub least_requirement : ℕ
least_requirement = 50

abbrev pub most_requirement : ℕ
most_requirement = 100

-- The activity limit is 100 to 140 percent of eligibility.
abbrev pub least_limit : ℕ
least_limit = 100

abbrev pub most_limit : ℕ
most_limit = 140

-- A document of version 1 cannot state an activity limit or granules. It means 100 percent, and one
-- dollar for each product.
abbrev pub first_limit : ℕ
first_limit = 100

abbrev pub first_granule : ℕ
first_granule = 1

-- the most characters of a name
abbrev pub longest_name : ℕ
longest_name = 32

-- the fewest and the most characters of a token
abbrev pub shortest_token : ℕ
shortest_token = 16

abbrev pub longest_token : ℕ
longest_token = 64

-- the most bids of a sheet
abbrev pub most_bids : ℕ
most_bids = 8192

-- a number is from `low` to `high`
abbrev pub is_within : ℕ → ℕ → ℕ → Bool
is_within low high n = nat_le low n && nat_le n high

-- an ASCII letter or digit
abbrev pub is_letter_or_digit : ℕ → Bool
is_letter_or_digit c = is_within 48 57 c || is_within 65 90 c || is_within 97 122 c

-- a letter, a digit, a dash, or an underscore
abbrev pub is_name_character : ℕ → Bool
is_name_character c = is_letter_or_digit c || nat_eq c 45 || nat_eq c 95

-- a name: 1 to 32 letters, digits, dashes, and underscores
abbrev pub IsName : List ℕ → Type 0
IsName text = IsWithin 1 longest_name (length text) × AllPass is_name_character text

-- the test of IsName
abbrev pub is_name : List ℕ → Bool
is_name text = is_within 1 longest_name (length text) && list_all is_name_character text

-- a token: 16 to 64 letters and digits
abbrev pub IsToken : List ℕ → Type 0
IsToken text = IsWithin shortest_token longest_token (length text) × AllPass is_letter_or_digit text

-- the test of IsToken
abbrev pub is_token : List ℕ → Bool
is_token text =
    is_within shortest_token longest_token (length text) && list_all is_letter_or_digit text

-- the limits of a product: each value has its range, and the cap is at most the supply
pub record IsProduct (product : Product) : Type 0 where
  pub name : IsName product.name
  pub units : IsWithin 1 most_units product.units
  pub supply : IsWithin 1 most_supply product.supply
  pub cap : IsWithin 1 product.supply product.cap
  pub opening : IsPrice product.opening
  pub granule : IsWithin 1 most_granule product.granule

-- the limits of a bidder
pub record IsBidder (bidder : Bidder) : Type 0 where
  pub name : IsName bidder.name
  pub token : IsToken bidder.token
  pub eligibility : bidder.eligibility ≤ most_eligibility

-- no two texts of a list are equal
abbrev pub AreDistinct : List (List ℕ) → Type 0
AreDistinct texts = AllPairs (λ a b. a ≢ b) texts

-- the test of AreDistinct
abbrev pub is_distinct : List (List ℕ) → Bool
is_distinct [] = true
is_distinct (text ∷ texts) = not (list_any (bytes_eq text) texts) && is_distinct texts

-- A set-up, with activity limit and requirement in percent, and with the operator's token.
pub record SetupFields : Type 0 where
  pub version : ℕ
  pub limit : ℕ
  pub requirement : ℕ
  pub operator : List ℕ
  pub products : List Product
  pub bidders : List Bidder

-- The public set-up, which everyone knows: all but the operator's token and the bidders.
pub record PublicSetup : Type 0 where
  pub version : ℕ
  pub limit : ℕ
  pub requirement : ℕ
  pub products : List Product

abbrev pub public_setup : SetupFields → PublicSetup
public_setup setup = record {
  version = setup.version;
  limit = setup.limit;
  requirement = setup.requirement;
  products = setup.products;
}

-- A set-up of version 1 has an activity limit of 100 percent and granules of one dollar.
pub record IsOfFirstVersion (setup : SetupFields) : Type 0 where
  pub limit : setup.limit ≡ first_limit
  pub granules : All (λ product. product.granule ≡ first_granule) setup.products

-- A set-up: of version 1 or 2, each part within its limits, no two products or bidders with one
-- name, and no two of the operator and the bidders with one token.
pub record IsSetup (setup : SetupFields) : Type 0 where
  pub version : IsWithin 1 latest_version setup.version
  pub first_version : setup.version ≡ 1 → IsOfFirstVersion setup
  pub requirement : IsWithin least_requirement most_requirement setup.requirement
  pub limit : IsWithin least_limit most_limit setup.limit
  pub operator : IsToken setup.operator
  pub product_count : IsWithin 1 most_products (length setup.products)
  pub products : All IsProduct setup.products
  pub bidder_count : IsWithin 1 most_bidders (length setup.bidders)
  pub bidders : All IsBidder setup.bidders
  pub product_names : AreDistinct (map (λ product. product.name) setup.products)
  pub bidder_names : AreDistinct (map (λ bidder. bidder.name) setup.bidders)
  pub tokens : AreDistinct (setup.operator ∷ map (λ bidder. bidder.token) setup.bidders)

-- what reading past the end of a list of products gives
abbrev pub no_product : Product
no_product = record { name = []; units = 0; supply = 0; cap = 0; opening = 0; granule = 1 }

abbrev pub product_at : List Product → ℕ → Product
product_at products product = slice_index_or products product no_product

-- the most blocks of a product that one bidder may ask for
abbrev pub cap_of : List Product → ℕ → ℕ
cap_of products product = (product_at products product).cap

-- the number of blocks of a product
abbrev pub supply_of : List Product → ℕ → ℕ
supply_of products product = (product_at products product).supply

-- the bidding units of one block of a product
abbrev pub units_of : List Product → ℕ → ℕ
units_of products product = (product_at products product).units

-- the number of dollars of which a product's clock prices are multiples
abbrev pub granule_of : List Product → ℕ → ℕ
granule_of products product = (product_at products product).granule

-- A demand for each product, each within its cap.
pub record IsRow (products : List Product) (demands : List ℕ) : Type 0 where
  pub each : length demands ≡ length products
  pub capped : EachIndex demands (λ product. slice_index demands product ≤ cap_of products product)
