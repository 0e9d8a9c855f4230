-- What reading says of the JSON value of bytes.
use Rattle.std.proofs.Common.{◌≡◌, ℕ, Bool, true, false, cond, List, Some, None, refl, ap, ◌∙◌}
use Rattle.std.specs.Str.{is_utf8, IsUtf8}
use Rattle.std.proofs.lemmas.Str.{is_utf8-from_IsUtf8, IsUtf8-from_is_utf8}
use Rattle.serde_json.specs.Data.{Data}
use Rattle.serde_json.specs.Read.{read}
use Rattle.clock_json.specs.Tree.{json}

pub json_value : (bytes : List ℕ) (value : Data) → IsUtf8 bytes → read bytes ≡ Some value → json bytes ≡ Some value
unfolding json
json_value bytes value text is =
    ap (λ t. cond t (read bytes) None) (is_utf8-from_IsUtf8 bytes text) ∙ is

pub no_json : (bytes : List ℕ) → (IsUtf8 bytes → read bytes ≡ None) → json bytes ≡ None
unfolding json
no_json bytes none = by (is_utf8 bytes) refl
  where
    by : (t : Bool) → is_utf8 bytes ≡ t → cond (is_utf8 bytes) (read bytes) None ≡ None
    by true e = ap (λ t. cond t (read bytes) None) e ∙ none (IsUtf8-from_is_utf8 bytes e)
    by false e = ap (λ t. cond t (read bytes) None) e
