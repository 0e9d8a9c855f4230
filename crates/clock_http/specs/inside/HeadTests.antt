-- Tests of the bytes of a head that proofs name.
--     empty_line      the end of a line and an empty line
--     is_field field      name and value of a header line have only bytes that the grammar allows
use Rattle.std.specs.Prelude.{ℕ, ◌&&◌, Bool, List, [], ◌∷◌}
use Rattle.std.specs.List.{list_all}
use Rattle.httparse.specs.Grammar.{Field, is_token, is_value_byte}

-- the end of a line and an empty line: CR LF CR LF
abbrev pub empty_line : List ℕ
empty_line = 13 ∷ 10 ∷ 13 ∷ 10 ∷ []

-- name and value have only bytes that the grammar allows
abbrev pub is_field : Field → Bool
is_field f = is_token f.name && list_all is_value_byte f.raw
