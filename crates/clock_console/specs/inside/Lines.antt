-- The parts of a fault's words.
--     spaced_number number, spaced_code code      a space and a number, or a code, if there is one
--     text_of_words words      a word, and what follows it
use Rattle.std.specs.Prelude.{ℕ, List, [], ◌++◌, Option, Some, None, codes, decimal}
use Rattle.clock_api.specs.Codes.{code_text}
use Rattle.clock_api.specs.declared.code.Code.{Code}
use Rattle.clock_console.specs.declared.fault.Words.{Words}

abbrev pub spaced_number : Option ℕ → List ℕ
spaced_number None = []
spaced_number (Some number) = codes " " ++ decimal number

abbrev pub spaced_code : Option Code → List ℕ
spaced_code None = []
spaced_code (Some code) = codes " " ++ code_text code

-- a text and what follows it, if something does
abbrev pub with_number : List ℕ → Option ℕ → List ℕ
with_number text None = text
with_number text (Some number) = text ++ spaced_number (Some number)

abbrev pub with_code : List ℕ → Option Code → List ℕ
with_code text None = text
with_code text (Some code) = text ++ spaced_code (Some code)

abbrev pub text_of_words : Words → List ℕ
text_of_words words = with_code (with_number (with_number words.0.now words.1) words.2) words.3
