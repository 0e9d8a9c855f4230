-- The words of a fault are written part by part: joining the parts gives the line.
use Rattle.std.proofs.Common.{◌≡◌, ℕ, List, ◌++◌, Option, Some, None, refl, append_assoc}
use Rattle.std.proofs.lemmas.List.{append-nil}
use Rattle.clock_api.specs.declared.code.Code.{Code}
use Rattle.clock_console.specs.declared.fault.Words.{Words}
use Rattle.clock_console.specs.inside.Lines.{spaced_number, spaced_code, text_of_words, with_code, with_number}

number_added : (text : List ℕ) (number : Option ℕ) → with_number text number ≡ text ++ spaced_number number
number_added text None = rw append-nil refl
number_added text (Some number) = refl

code_added : (text : List ℕ) (code : Option Code) → with_code text code ≡ text ++ spaced_code code
code_added text None = rw append-nil refl
code_added text (Some code) = refl

one_by_one : (words : Words)
    → text_of_words words ≡ words.0.now ++ (spaced_number words.1 ++ (spaced_number words.2 ++ spaced_code words.3))
one_by_one words = rw (code_added, number_added, number_added) (simp append_assoc)

-- the words in the order in which they are written, and what follows them
pub line_of_words : (words : Words) (rest : List ℕ) → text_of_words words ++ rest
    ≡ words.0.now ++ (spaced_number words.1 ++ (spaced_number words.2 ++ (spaced_code words.3 ++ rest)))
line_of_words words rest = rw (one_by_one words) (simp append_assoc)
