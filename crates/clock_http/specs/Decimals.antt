-- Numbers in decimal digits.
--     is_number text      one or more digits
--     plain_number text      the number that a text writes without leading zeros, below 2^64
use Rattle.std.specs.Prelude.{ℕ, ◌^◌, ◌&&◌, ◌||◌, not, Bool, List, length, slice_index}
use Rattle.std.specs.Prelude.{if◌then◌else◌, nat_lt, ◌==◌, Option, Some, None}
use Rattle.std.specs.List.{list_all}
use Rattle.std.specs.Char.{is_ascii_digit}
use Rattle.std.specs.Str.Parse.{digits_value}
use Rattle.httparse.specs.Ascii.{digit_zero}

abbrev pub is_number : List ℕ → Bool
is_number text = nat_lt 0 (length text) && list_all is_ascii_digit text

-- the number, if it is below 2^64 and written in digits without leading zeros
abbrev pub plain_number : List ℕ → Option ℕ
plain_number text =
    if (is_number text && (length text == 1 || not (slice_index text 0 == digit_zero)))
    && nat_lt (digits_value 10 text) (2 ^ 64) then Some (digits_value 10 text) else None
