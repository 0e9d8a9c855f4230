-- Bytes that are tokens by themselves: the marks that open and close lists and objects.
--     opening_mark mark, closing_mark mark      the token of a mark that opens, of one that closes
use Rattle.std.specs.Prelude.{ℕ, ◌==◌, if◌then◌else◌, Option, Some, None}
use Rattle.json.specs.Token.{Token, begin_array, begin_object, end_array, end_object}

-- [ and {
abbrev pub opening_mark : ℕ → Option Token
opening_mark mark =
    if mark == 91 then Some begin_array else if mark == 123 then Some begin_object else None

-- ] and }
abbrev pub closing_mark : ℕ → Option Token
closing_mark mark =
    if mark == 93 then Some end_array else if mark == 125 then Some end_object else None
