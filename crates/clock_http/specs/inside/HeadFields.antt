-- What the code has read of a head's lines.
--     Pairs      name and value of each header line
--     AreLinesOf text name pairs lines      the number of lines of a name, and their last value
--     AreFieldsOf text pairs fields      the lines of the names that this server reads
--     shown_read text result      a head with the length of its body, or why it is refused
use Rattle.std.specs.Prelude.{◌≡◌, ℕ, List, [], ◌∷◌, codes, length, Result, Ok, Err}
use Rattle.httparse.specs.Spans.{span_bytes, IsWithin}
use Rattle.clock_api.specs.declared.code.Code.{Code}
use Rattle.clock_http.specs.declared.head.EndedHead.{EndedHead}
use Rattle.clock_http.specs.declared.headers.HeaderLines.{HeaderLines}
use Rattle.clock_http.specs.declared.headers.Fields.{Fields}
use Rattle.clock_http.specs.HeaderLines.{values_of}
use Rattle.clock_http.specs.Framing.{Head}
use Rattle.clock_http.specs.Shown.{shown_ended}

-- name and value of each header line
abbrev pub Pairs : Type 0
Pairs = List (List ℕ × List ℕ)

-- the count is the number of lines with this name; if there is one, the span covers its value
pub record AreLinesOf (text name : List ℕ) (pairs : Pairs) (lines : HeaderLines) : Type 0 where
  pub count : lines.count ≡ length (values_of name pairs)
  pub only : (value : List ℕ) → values_of name pairs ≡ value ∷ []
      → span_bytes text lines.value ≡ value
  pub within : IsWithin (length text) lines.value

-- the lines of each name are counted
pub record AreFieldsOf (text : List ℕ) (pairs : Pairs) (fields : Fields) : Type 0 where
  pub coding : AreLinesOf text (codes "transfer-encoding") pairs fields.coding
  pub length : AreLinesOf text (codes "content-length") pairs fields.length
  pub authorization : AreLinesOf text (codes "authorization") pairs fields.authorization

abbrev pub shown_read : List ℕ → Result EndedHead Code → Result (Head × ℕ) Code
shown_read text (Err fault) = Err fault
shown_read text (Ok head) = Ok (shown_ended text head, head.body)
