-- Numbers that are written in digits.
--     IsNumberUpTo bytes start stop read      the digits of a number are there, and where they end
use Rattle.std.specs.Prelude.{◌≡◌, ◌≤◌, ◌<◌, ◌^◌, ℕ, true, List, ◌∷◌, drop, decimal}
use Rattle.json.specs.Token.{number}
use Rattle.json.specs.Lex.{lex, between, token}
use Rattle.json.specs.Word.{ends_word}

-- the digits of a number are there and end before an index; it is read if they end a word
pub record IsNumberUpTo (bytes : List ℕ) (start stop : ℕ) (read : ℕ × ℕ) : Type 0 where
  pub few : (start < read.1) × (read.1 ≤ stop)
  pub small : read.0 < 2 ^ 64
  pub value : ends_word (drop read.1 bytes) ≡ true → lex between (drop start bytes)
      ≡ token (number (decimal read.0)) ∷ lex between (drop read.1 bytes)
