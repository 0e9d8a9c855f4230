-- The page of a refusal.
--     refusal_value shown      the code, its place or round if it has one, and its status
--     refusal_bytes shown      that page, byte for byte
use Rattle.std.specs.Prelude.{ℕ, List, [], ◌∷◌, ◌++◌, codes, decimal}
use Rattle.serde_json.specs.Data.{Data, string}
use Rattle.clock_api.specs.Codes.{status_of, code_text}
use Rattle.clock_views.specs.Refusals.{Shown}
use Rattle.clock_views.specs.Values.{whole, object_of, member_if, number_if}

unfoldable pub refusal_value : Shown → Data
refusal_value shown = object_of (
    ("code", string (code_text shown.code)) ∷
    member_if "place" shown.place ++
    member_if "round" shown.round ++
    ("status", whole (status_of shown.code)) ∷ [])

-- the page of a refusal, byte for byte
abbrev pub refusal_bytes : Shown → List ℕ
refusal_bytes shown =
    codes "{\"code\":\"" ++ code_text shown.code ++ codes "\""
    ++ number_if (codes ",\"place\":") shown.place
    ++ number_if (codes ",\"round\":") shown.round
    ++ codes ",\"status\":" ++ decimal (status_of shown.code) ++ codes "}"
