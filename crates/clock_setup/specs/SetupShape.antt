-- The shape of a set-up document: objects with exactly these keys, each with a value of its kind.
-- The format is our own.
--     added_number, key_count      the keys that version 2 added
--     product_of version value, bidder_of value      an item of "products" and of "bidders"
--     fields_from value      the whole document, before any limit is checked
use Rattle.std.specs.Prelude.{ℕ, ◌+◌, ◌==◌, List, Option, Some, None, option_and_then}
use Rattle.std.specs.Prelude.{if◌then◌else◌, codes}
use Rattle.serde_json.specs.Data.{Data}
use Rattle.clock_json.specs.Tree.{number_at, text_at, items_at, has_members, each, ◌>>=◌}
use Rattle.clock_terms.specs.declared.setup.Product.{Product}
use Rattle.clock_terms.specs.declared.setup.Bidder.{Bidder}
use Rattle.clock_terms.specs.Limits.{SetupFields, first_limit, first_granule}

-- the number under a key that version 2 added; in version 1 it has a fixed value
abbrev pub added_number : ℕ → ℕ → List ℕ → Data → Option ℕ
added_number version in_first key value =
    if version == 1 then Some in_first else number_at key value

-- the number of keys of an object to which version 2 added one
abbrev pub key_count : ℕ → ℕ → ℕ
key_count version in_first = if version == 1 then in_first else in_first + 1

-- {"name":T,"units":N,"supply":N,"cap":N,"opening":N}, from version 2 also "granule":N, which is 1
-- in version 1
unfoldable pub product_of : ℕ → Data → Option Product
product_of version value = do
  name ← text_at (codes "name") value
  units ← number_at (codes "units") value
  supply ← number_at (codes "supply") value
  cap ← number_at (codes "cap") value
  opening ← number_at (codes "opening") value
  granule ← added_number version first_granule (codes "granule") value
  if has_members (key_count version 5) value
      then Some (record {
        name = name;
        units = units;
        supply = supply;
        cap = cap;
        opening = opening;
        granule = granule;
      })
      else None

-- {"name":T,"token":T,"eligibility":N}
unfoldable pub bidder_of : Data → Option Bidder
bidder_of value = do
  name ← text_at (codes "name") value
  token ← text_at (codes "token") value
  eligibility ← number_at (codes "eligibility") value
  if has_members 3 value
      then Some (record { name = name; token = token; eligibility = eligibility }) else None

-- {"version":N,"requirement":N,"operator":T,"products":[PRODUCT,..],"bidders":[BIDDER,..]}, from
-- version 2 also "limit":N, which is 100 in version 1
unfoldable pub fields_from : Data → Option SetupFields
fields_from value = do
  version ← number_at (codes "version") value
  limit ← added_number version first_limit (codes "limit") value
  requirement ← number_at (codes "requirement") value
  operator ← text_at (codes "operator") value
  products ← option_and_then (each (product_of version)) (items_at (codes "products") value)
  bidders ← option_and_then (each bidder_of) (items_at (codes "bidders") value)
  if has_members (key_count version 5) value
      then Some (record {
        version = version;
        limit = limit;
        requirement = requirement;
        operator = operator;
        products = products;
        bidders = bidders;
      })
      else None
