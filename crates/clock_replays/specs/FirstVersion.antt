-- What documents, closings, and rules of version 1 mean, stated without version 2.
--     first_product value, first_setup value      an item of "products" and a set-up of version 1
--     first_closing value, first_body bytes      the closing that a JSON value means, and that the
--         bytes of a body mean
--     FirstVersion      the law: version 2 did not change what a set-up of version 1 means
use Rattle.std.specs.Prelude.{◌≡◌, ◌↔◌, ℕ, ◌+◌, ◌*◌, ◌≤◌, ◌<◌, List, replicate, Option, Some, None}
use Rattle.std.specs.Prelude.{Result}
use Rattle.std.specs.Prelude.{option_and_then, if◌then◌else◌, codes}
use Rattle.serde_json.specs.Data.{Data}
use Rattle.clock_money.specs.Price.{IsLeastWith, highest_price, raise}
use Rattle.clock_terms.specs.declared.setup.Product.{Product}
use Rattle.clock_terms.specs.declared.increments.Increments.TheVariants.{Single, PerProduct}
use Rattle.clock_terms.specs.Limits.{SetupFields, PublicSetup, IsSetup, IsOfFirstVersion}
use Rattle.clock_terms.specs.Limits.{first_granule, first_limit}
use Rattle.clock_terms.specs.Increments.{increment_at, are_increments}
use Rattle.clock_json.specs.Tree.{number_at, text_at, items_at, has_members, each, json, ◌>>=◌}
use Rattle.clock_bids.specs.Holding.{activity_limit}
use Rattle.clock_setup.specs.SetupShape.{bidder_of, fields_from}
use Rattle.clock_bodies.specs.declared.close_body.CloseBody.{CloseBody}
use Rattle.clock_bodies.specs.declared.body.BodyFault.{BodyFault}
use Rattle.clock_bodies.specs.Bodies.{meant_by}
use Rattle.clock_bodies.specs.CloseBodies.{tie_in, close_body, in_version}

-- {"name":T,"units":N,"supply":N,"cap":N,"opening":N}
unfoldable pub first_product : Data → Option Product
first_product value = do
  name ← text_at (codes "name") value
  units ← number_at (codes "units") value
  supply ← number_at (codes "supply") value
  cap ← number_at (codes "cap") value
  opening ← number_at (codes "opening") value
  if has_members 5 value
      then Some (record {
        name = name;
        units = units;
        supply = supply;
        cap = cap;
        opening = opening;
        granule = 1;
      })
      else None

-- {"version":1,"requirement":N,"operator":T,"products":[PRODUCT,..],"bidders":[BIDDER,..]}
unfoldable pub first_setup : Data → Option SetupFields
first_setup value = do
  requirement ← number_at (codes "requirement") value
  operator ← text_at (codes "operator") value
  products ← option_and_then (each first_product) (items_at (codes "products") value)
  bidders ← option_and_then (each bidder_of) (items_at (codes "bidders") value)
  if has_members 5 value
      then Some (record {
        version = 1;
        limit = 100;
        requirement = requirement;
        operator = operator;
        products = products;
        bidders = bidders;
      })
      else None

-- {"increment":N,"round":N,"ties":[TIE,..]}
unfoldable pub first_closing : Data → Option CloseBody
first_closing value = do
  round ← number_at (codes "round") value
  increment ← number_at (codes "increment") value
  ties ← option_and_then (each tie_in) (items_at (codes "ties") value)
  if has_members 3 value
      then Some (record { round = round; increments = Single increment; ties = ties }) else None

-- the closing of version 1 that bytes mean, or their first fault
abbrev pub first_body : List ℕ → Result CloseBody BodyFault
first_body bytes = meant_by first_closing (json bytes)

-- A set-up of version 1 has a limit of 100 and granules of 1. Its document and closings have the
-- keys of version 1 only. The activity limit is then the eligibility, the clock price the least
-- whole price that is high enough, and one increment means a list of it for each product.
pub record FirstVersion : Type 0 where
  pub setups : (setup : SetupFields) → IsSetup setup → setup.version ≡ 1 → IsOfFirstVersion setup
  pub documents : (value : Data) → number_at (codes "version") value ≡ Some 1
      → fields_from value ≡ first_setup value
  pub bodies : (bytes : List ℕ) → in_version 1 (close_body bytes) ≡ first_body bytes
  pub limit : (setup : PublicSetup) (round eligibility : ℕ) → setup.limit ≡ first_limit
      → activity_limit setup round eligibility ≡ eligibility
  pub clock : (start percent price : ℕ) → (raise start percent first_granule ≡ Some price)
      ↔ (IsLeastWith (λ whole. start * (100 + percent) ≤ 100 * whole) price
      × (price ≤ highest_price))
  pub increment : (count increment product : ℕ) → product < count → increment_at
      (PerProduct (replicate count increment)) product ≡ increment_at (Single increment) product
  pub judged : (count increment : ℕ) → 1 ≤ count → are_increments count
      (PerProduct (replicate count increment)) ≡ are_increments count (Single increment)
