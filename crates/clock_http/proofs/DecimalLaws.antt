-- Decimal digits are UTF-8, and std parses them to the number that they write: its parser is a fold over them.
use Rattle.std.proofs.Common.{◌≡◌, ℕ, zero, suc, ◌<◌, ◌^◌, true, List, [], ◌∷◌, length, Option}
use Rattle.std.proofs.Common.{Result, Ok, Err, sym, subst, arith, rules}
use Rattle.std.specs.Prelude.{IsTrue, nat_lt}
use Rattle.std.specs.Char.{is_ascii_digit}
use Rattle.std.specs.Cmp.{first_so, second_so}
use Rattle.std.specs.List.{list_all}
use Rattle.std.specs.Option.{SomeIff}
use Rattle.std.specs.Result.{OkIff, result_ok}
use Rattle.std.specs.Str.{IsAscii, IsUtf8}
use Rattle.std.specs.Str.Parse.{ParsesUnsigned, digits_value, digits_value_after}
use Rattle.std.proofs.lemmas.Bool.Decides.{nat_tests}
use Rattle.std.proofs.lemmas.Str.{IsUtf8-from_ascii}
use Rattle.std.proofs.lemmas.Str.Parse.{IsNumeralModel, numerals_by_fold, parse_digits}
use Rattle.clock_http.specs.Decimals.{is_number}

digits_ascii : (text : List ℕ) → list_all is_ascii_digit text ≡ true → IsAscii text
digits_ascii [] all i = omega arith
digits_ascii (b ∷ rest) all zero = (let here : is_ascii_digit b ≡ true = first_so _ _ all in grind (arith, nat_tests))
digits_ascii (b ∷ rest) all (suc i) = digits_ascii rest (second_so _ _ all) i

all_digits : (text : List ℕ) → IsTrue (is_number text) → list_all is_ascii_digit text ≡ true
all_digits text is = second_so _ _ is

pub digits_text : (text : List ℕ) → IsTrue (is_number text) → IsUtf8 text
digits_text text is = IsUtf8-from_ascii text (digits_ascii text (all_digits text is))

own : IsNumeralModel (λ text. list_all is_ascii_digit text ≡ true) (digits_value 10)
own = numerals_by_fold _ (search rules) (digits_value_after 10) (search rules)

some_digits : (text : List ℕ) → IsTrue (is_number text) → 0 < length text
some_digits text is = (let test : nat_lt 0 (length text) ≡ true = first_so _ _ is in grind (arith, nat_tests))

module _ {E : Type 0} (text : List ℕ) (is : IsTrue (is_number text)) where
  by_result : (r : Result ℕ E) → OkIff r ((0 < length text) × (digits_value 10 text < 2 ^ 64)) (digits_value 10 text)
      → SomeIff (result_ok r) (digits_value 10 text < 2 ^ 64) (digits_value 10 text)
  by_result (Ok n) reported = (reported.0.1, reported.1)
  by_result (Err e) reported = λ short. reported (some_digits text is, short)

  pub number_read : (bytes : List ℕ) (r : Result ℕ E) (o : Option ℕ) → bytes ≡ text → ParsesUnsigned 64 10 bytes r
      → o ≡ result_ok r → SomeIff o (digits_value 10 text < 2 ^ 64) (digits_value 10 text)
  number_read bytes r o same reads made =
      let plain : ParsesUnsigned 64 10 text r = subst (λ (b : List ℕ). ParsesUnsigned 64 10 b r) same reads in
      subst (λ (reported : Option ℕ). SomeIff reported (digits_value 10 text < 2 ^ 64) (digits_value 10 text))
      (sym made) (by_result r (parse_digits own 64 text r plain (all_digits text is)))
