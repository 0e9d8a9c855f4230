-- A quote is an ASCII character, so what two quotes enclose begins and ends between characters.
use Rattle.std.proofs.Common.{◌≡◌, ◌+◌, ◌-◌, List, ℕ, subst, arith}
use Rattle.std.specs.Str.{IsUtf8, IsCharBoundary}
use Rattle.std.proofs.iter.FirstChar.{beside_ascii}
use Rattle.clock_json.specs.inside.Quotes.{IsQuoted}
use Rattle.clock_json.proofs.words.quoted_text.Goals as goal

-- the index after the first quote
after_first : (text : List ℕ) (at last : ℕ) (word : List ℕ) → IsUtf8 text → IsQuoted text at last word
    → IsCharBoundary text (at + 1)
after_first text at last word utf8 quoted =
    (beside_ascii text at utf8 (omega (arith, quoted.order, quoted.within)) (omega (arith, quoted.opens))).1

-- the index of the last quote
at_last : (text : List ℕ) (at last : ℕ) (word : List ℕ) → IsUtf8 text → IsQuoted text at last word
    → IsCharBoundary text last
at_last text at last word utf8 quoted = (beside_ascii text last utf8 quoted.within (omega (arith, quoted.closes))).0

pub range-requires-clause-start_boundary : goal.range-requires-clause-start_boundary
range-requires-clause-start_boundary c = λ positive.
    let quotes = c.in_ok-end.ensures.quotes in
    after_first c.args.text.now c.args.at quotes.0 c.in_ok-end.field-0-0.now c.utf8.text (subst
    (λ (bytes : List ℕ). IsQuoted bytes c.args.at quotes.0 c.in_ok-end.field-0-0.now) c.as_bytes.ensures.value quotes.2)

pub range-requires-clause-end_boundary : goal.range-requires-clause-end_boundary
range-requires-clause-end_boundary c =
    let quotes = c.in_ok-end.ensures.quotes in
    let end : quotes.0 ≡ c.in_ok-end.end - 1 = omega (arith, quotes.1) in
    subst (λ (last : ℕ). IsCharBoundary c.args.text.now last) end
    (at_last c.args.text.now c.args.at quotes.0 c.in_ok-end.field-0-0.now c.utf8.text (subst (λ (bytes : List ℕ).
    IsQuoted bytes c.args.at quotes.0 c.in_ok-end.field-0-0.now) c.as_bytes.ensures.value quotes.2))
