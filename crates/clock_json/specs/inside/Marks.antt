-- Bytes that are tokens by themselves: the marks that open and close lists and objects.
--     IsMark may byte t next      if the test accepts it, the byte is this token, and the lexer
--         continues from `next`
use Rattle.std.specs.Prelude.{◌≡◌, ℕ, Bool, true, List, ◌∷◌}
use Rattle.json.specs.Token.{Token}
use Rattle.json.specs.Lex.{Lexeme, Place, lex, between, token, punctuate}

-- if the test accepts it, the byte is read as this token, and the lexer continues from `next`
pub record IsMark (may : Place → Bool) (byte : ℕ) (t : Token) (next : Place) : Type 0 where
  pub lexed : (rest : List ℕ) → lex between (byte ∷ rest) ≡ token t ∷ lex between rest
  pub placed : (place : Place) (ls : List Lexeme) → may place ≡ true
      → punctuate place (token t ∷ ls) ≡ t ∷ punctuate next ls
