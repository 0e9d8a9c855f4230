-- What the header lines of a head say of the length of its body and of its sender. Names match in
-- letters of any case. Values have no spaces and tabs at their ends (RFC 9112, section 5).
--     values_of name pairs      the values of the lines of one name, in their order
--     body_length pairs      the length of the body, or why it is refused
--     token_of pairs      the token: what follows the word Bearer in the only authorization line
use Rattle.std.specs.Prelude.{ℕ, Bool, List, [], ◌∷◌, take, drop, map, filter, if◌then◌else◌, ◌==◌}
use Rattle.std.specs.Prelude.{nat_lt, Option, Some, None, Result, Ok, Err, codes}
use Rattle.std.specs.Char.{to_ascii_lowercase}
use Rattle.std.specs.Str.Parse.{digits_value}
use Rattle.httparse.specs.Ascii.{space}
use Rattle.httparse.specs.Grammar.{RequestHead}
use Rattle.httparse.specs.Spans.{name_and_value}
use Rattle.clock_api.specs.Bytes.{same_bytes}
use Rattle.clock_http.specs.Decimals.{is_number}
use Rattle.clock_api.specs.declared.code.Code.{Code}
use Rattle.clock_api.specs.declared.code.Code.TheVariants.{Coding, BadLength, LongBody}

-- the most bytes of a body (own limit)
abbrev pub body_limit : ℕ
body_limit = 1048576

-- name and value of each header line
abbrev pub pairs_of : RequestHead → List (List ℕ × List ℕ)
pairs_of head = map name_and_value head.fields

-- the line has this name, in letters of any case
abbrev pub is_named : List ℕ → List ℕ × List ℕ → Bool
is_named name pair = same_bytes (map to_ascii_lowercase pair.0) (map to_ascii_lowercase name)

-- the values of all lines with this name, in order
abbrev pub values_of : List ℕ → List (List ℕ × List ℕ) → List (List ℕ)
values_of name pairs = map (λ pair. pair.1) (filter (is_named name) pairs)

-- the length in digits (RFC 9110, section 8.6); 0 without a line; two lines are refused
abbrev pub length_from : List (List ℕ) → Result ℕ Code
length_from [] = Ok 0
length_from (value ∷ []) = if is_number value then Ok (digits_value 10 value) else Err BadLength
length_from (value ∷ (other ∷ more)) = Err BadLength

-- a length above the limit of a body is refused
abbrev pub within_limit : Result ℕ Code → Result ℕ Code
within_limit (Err code) = Err code
within_limit (Ok n) = if nat_lt body_limit n then Err LongBody else Ok n

-- no transfer coding is supported: any such line is refused, before all else
abbrev pub unless_coded : List (List ℕ) → Result ℕ Code → Result ℕ Code
unless_coded [] n = n
unless_coded (value ∷ more) n = Err Coding

-- the length of the body that these lines state, or why they are refused
abbrev pub body_length : List (List ℕ × List ℕ) → Result ℕ Code
body_length pairs = unless_coded (values_of (codes "transfer-encoding") pairs)
    (within_limit (length_from (values_of (codes "content-length") pairs)))

abbrev pub skip_spaces : List ℕ → List ℕ
skip_spaces [] = []
skip_spaces (b ∷ rest) = if b == space then skip_spaces rest else b ∷ rest

-- what follows Bearer, in letters of any case, and one or more spaces (RFC 6750, section 2.1)
abbrev pub bearer : List ℕ → Option (List ℕ)
bearer value = if same_bytes (map to_ascii_lowercase (take 7 value)) (codes "bearer ")
    then Some (skip_spaces (drop 7 value)) else None

-- only a head with exactly one such line has a token
abbrev pub token_from : List (List ℕ) → Option (List ℕ)
token_from [] = None
token_from (value ∷ []) = bearer value
token_from (value ∷ (other ∷ more)) = None

-- the token of a head, if it has exactly one
abbrev pub token_of : List (List ℕ × List ℕ) → Option (List ℕ)
token_of pairs = token_from (values_of (codes "authorization") pairs)
