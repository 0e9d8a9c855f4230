-- A value that is written without white space.
--     tokens_from place at bytes      the tokens of the bytes from an index on
--     IsCompactValue bytes start value end      the value is there, from one index up to another
use Rattle.std.specs.Prelude.{◌≡◌, ℕ, true, List, drop}
use Rattle.json.specs.Token.{Token}
use Rattle.json.specs.Lex.{Place, may_begin, after_value, lex, between, punctuate}
use Rattle.serde_json.specs.Data.{Data}
use Rattle.clock_json.specs.Reading.{ReadsValue}

-- the tokens of the bytes from an index on, in this state of the lexer
abbrev pub tokens_from : Place → ℕ → List ℕ → List Token
tokens_from place at bytes = punctuate place (lex between (drop at bytes))

-- where a value may begin, the bytes from `start` on are read as this value, which nests at most
-- once, and those from `end` on follow it
abbrev pub IsCompactValue : List ℕ → ℕ → Data → ℕ → Type 0
IsCompactValue bytes start value end = (place : Place) → may_begin place ≡ true
    → ReadsValue 1 (tokens_from place start bytes) value (tokens_from after_value end bytes)
