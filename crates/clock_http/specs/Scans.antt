-- The end of a head and of its lines, by the bytes only (RFC 9112, section 2.2, narrowed: each
-- line ends with CR LF).
--     head_length text      the number of bytes up to the end of the first empty line
--     line_ends bytes      the number of line ends
--     is_loose bytes      the bytes begin with a CR, or have an LF with no CR before it
use Rattle.std.specs.Prelude.{ℕ, ◌+◌, ◌&&◌, ◌||◌, not, Bool, false, List, [], ◌∷◌, ◌++◌, suc}
use Rattle.std.specs.Prelude.{slice_index, if◌then◌else◌, ◌==◌, nat_eq, Option, Some, None}
use Rattle.std.specs.Prelude.{option_map}
use Rattle.std.specs.List.{starts_with}
use Rattle.httparse.specs.Ascii.{carriage_return, line_feed, crlf_bytes}

-- the number of bytes up to the end of the first CR LF CR LF
abbrev pub head_length : List ℕ → Option ℕ
head_length [] = None
head_length (b ∷ rest) = if starts_with nat_eq (b ∷ rest) (crlf_bytes ++ crlf_bytes) then Some 4
    else option_map suc (head_length rest)

-- how often CR LF occurs in the bytes
abbrev pub line_ends : List ℕ → ℕ
line_ends [] = 0
line_ends (b ∷ rest) = (if starts_with nat_eq (b ∷ rest) crlf_bytes then 1 else 0) + line_ends rest

-- an LF follows another byte than a CR; the first follows `before`
abbrev pub has_bare_line_feed : ℕ → List ℕ → Bool
has_bare_line_feed before [] = false
has_bare_line_feed before (b ∷ rest) =
    (b == line_feed && not (before == carriage_return)) || has_bare_line_feed b rest

-- the first byte is a CR, or an LF follows another byte than a CR
abbrev pub is_loose : List ℕ → Bool
is_loose bytes = slice_index bytes 0 == carriage_return || has_bare_line_feed 0 bytes
