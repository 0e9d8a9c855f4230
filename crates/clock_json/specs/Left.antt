-- The tokens that a text has left, by the lexer of JSON (RFC 8259, as serde_json's reading
-- definition has it).
use Rattle.std.specs.Prelude.{ℕ, List}
use Rattle.json.specs.Token.{Token}
use Rattle.json.specs.Lex as lexer
use Rattle.json.specs.Lex.{lex, between, punctuate}
use Rattle.clock_json.specs.declared.scan.Expected.{Expected}
use Rattle.clock_json.specs.declared.scan.Expected.TheVariants.{Fresh, AfterValue, AfterComma}

-- the state of the lexer
abbrev pub place_of : Expected → lexer.Place
place_of Fresh = lexer.fresh
place_of AfterValue = lexer.after_value
place_of AfterComma = lexer.after_comma

-- the tokens of the bytes that are left, if this one may come next
abbrev pub left : Expected → List ℕ → List Token
left expected text = punctuate (place_of expected) (lex between text)
