-- A word between two quotes.
--     IsQuoted bytes at last word      the word follows the quote at one index, and the quote at
--         another follows the word
use Rattle.std.specs.Prelude.{◌≡◌, ◌<◌, ◌+◌, ℕ, List, get_or, length, slice_range}

-- a quote is the byte 34
pub record IsQuoted (bytes : List ℕ) (at last : ℕ) (word : List ℕ) : Type 0 where
  pub opens : get_or bytes at 0 ≡ 34
  pub order : at < last
  pub closes : get_or bytes last 0 ≡ 34
  pub within : last < length bytes
  pub is : word ≡ slice_range bytes (at + 1) last
