use Rattle.std.proofs.Common.{◌+◌, [], ◌∷◌, drop, refl, ap, ◌∙◌, arith}
use Rattle.std.proofs.lemmas.Int.Digits.{digits_value_push}
use Rattle.json.specs.Lex.{lex, between}
use Rattle.clock_json.proofs.LexLaws.{at_byte, digit_is, lex-digits}
use Rattle.clock_json.proofs.digits.digit_before.Goals as goal

pub returns-clause-number : goal.returns-clause-number
returns-clause-number c =
    let bytes = c.args.bytes.now in
    let at = c.args.at in
    let digit = c.in_ok-digit.digit in
    let d = digit + 48 in
    let one = c.in_ok-digit.ensures.0 in
    let v = digit_is d (omega arith) (omega (arith, one)) in
    record {
      few = (omega arith, omega arith);
      small = omega (arith, one);
      value = λ ended. ap (lex between) (at_byte bytes at d (omega (arith, c.requires)) c.in_ok-digit.ensures.1)
          ∙ lex-digits (d ∷ []) (drop (at + 1) bytes) digit ((omega (arith, v, one)), tt) (digits_value_push 10 [] d
          ∙ omega (arith, v)) (omega (arith, one)) (omega arith) (λ _. refl) ended;
    }
