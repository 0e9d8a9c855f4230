use Rattle.std.proofs.Common.{◌≡◌, ◌+◌, ◌<◌, ◌++◌, length, take, drop, sym, ap, ◌∙◌, arith}
use Rattle.std.proofs.lemmas.List.{take-append-drop, drop-drop, length-drop, length-take-le}
use Rattle.json.specs.Lex.{lex, between}
use Rattle.clock_json.proofs.LexLaws.{lex-digits, first_of}
use Rattle.clock_json.proofs.digits.uneven_digits_at.Goals as goal

pub returns-clause-number : goal.returns-clause-number
returns-clause-number c =
    let bytes = c.args.bytes.now in
    let start = c.args.start in
    let count = c.digits_ahead-count.result in
    let ds = take count (drop start bytes) in
    let split : drop start bytes ≡ ds ++ drop (start + count) bytes =
    sym (take-append-drop count (drop start bytes)) ∙ ap (λ rest. ds ++ rest) (drop-drop count start bytes) in
    let size : length ds ≡ count = length-take-le count (drop start bytes)
    (omega (arith, c.requires.most, length-drop start bytes, c.if-count-gt8.false)) in
    let some : 0 < length ds = omega (arith, size, c.if-count-eq0.false) in
    let first = first_of bytes ds start (start + count) split some in
    record {
      few = (omega (arith, some, size), omega (arith, c.if-count-gt8.false));
      small = omega (arith, c.value_of.ensures.small);
      value = λ ended. ap (lex between) split ∙ lex-digits ds (drop (start + count) bytes) c.value_of.result
          c.value_of.ensures.digits (sym c.value_of.ensures.value) (omega (arith, c.value_of.ensures.small)) some
          (λ e. absurd (omega (arith, c.if-bytes-start-eq48.false, first, e))) ended;
    }
