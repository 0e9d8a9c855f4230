-- The pages that everyone may see. They are functions only of what is public.
--     status_value setup round ended      the status of the auction
--     status_bytes setup round ended      that page, byte for byte
--     from_version_2 version n      a number that set-up documents have from version 2 on
--     product_value version product, products_value setup      the public set-up
--     line_value product line, round_results_value setup sheet      the round results
use Rattle.std.specs.Prelude.{ℕ, List, [], ◌∷◌, ◌++◌, Bool, nat_le, Option, Some, None}
use Rattle.std.specs.Prelude.{if◌then◌else◌, codes, decimal, zip}
use Rattle.serde_json.specs.Data.{Data, boolean, string}
use Rattle.clock_terms.specs.declared.setup.Product.{Product}
use Rattle.clock_terms.specs.Limits.{PublicSetup}
use Rattle.clock_posting.specs.declared.sheet.Line.{Line}
use Rattle.clock_posting.specs.declared.sheet.RoundSheet.{RoundSheet}
use Rattle.clock_views.specs.Values.{whole, whole_or_null, list_of, object_of, member_if}
use Rattle.clock_views.specs.Values.{true_or_false}

-- the status page
unfoldable pub status_value : PublicSetup → ℕ → Bool → Data
status_value setup round ended = object_of (("ended", boolean ended) ∷ ("round", whole round)
    ∷ ("version", whole setup.version) ∷ [])

-- the status page, byte for byte
abbrev pub status_bytes : PublicSetup → ℕ → Bool → List ℕ
status_bytes setup round ended =
    codes "{\"ended\":" ++ true_or_false ended
    ++ codes ",\"round\":" ++ decimal round
    ++ codes ",\"version\":" ++ decimal setup.version ++ codes "}"

abbrev pub from_version_2 : ℕ → ℕ → Option ℕ
from_version_2 version n = if nat_le 2 version then Some n else None

-- a product of the set-up
unfoldable pub product_value : ℕ → Product → Data
product_value version product = object_of (
    ("cap", whole product.cap) ∷
    member_if "granule" (from_version_2 version product.granule) ++
    ("name", string product.name) ∷
    ("opening", whole product.opening) ∷
    ("supply", whole product.supply) ∷
    ("units", whole product.units) ∷ [])

-- the public set-up, with the products in its order
unfoldable pub products_value : PublicSetup → Data
products_value setup = object_of (
    member_if "limit" (from_version_2 setup.version setup.limit) ++
    ("products", list_of (product_value setup.version) setup.products) ∷
    ("requirement", whole setup.requirement) ∷
    ("version", whole setup.version) ∷ [])

-- a product's line of the round results; `demand` is null if not published, `next` null at the end
unfoldable pub line_value : Product → Line → Data
line_value product line = object_of (
    ("clock", whole line.clock) ∷
    ("demand", whole_or_null line.demand) ∷
    ("name", string product.name) ∷
    ("next", whole_or_null line.next) ∷
    ("posted", whole line.posted) ∷
    ("start", whole line.start) ∷ [])

-- the round results
unfoldable pub round_results_value : PublicSetup → RoundSheet → Data
round_results_value setup sheet = object_of (
    ("ended", boolean sheet.ended) ∷
    ("products", list_of (λ row. line_value row.0 row.1) (zip setup.products sheet.lines)) ∷
    ("round", whole sheet.round) ∷ [])
