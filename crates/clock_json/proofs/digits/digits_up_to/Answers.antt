use Rattle.std.proofs.Common.{◌+◌, ◌-◌, ◌*◌, ◌<◌, ◌^◌, [], ◌∷◌, ◌++◌, length, drop, get_or, append_assoc, length-append}
use Rattle.std.proofs.Common.{sym, ap, ◌∙◌, subst, arith}
use Rattle.std.proofs.lemmas.Int.Digits.{digits_value_push}
use Rattle.json.specs.Lex.{lex, between}
use Rattle.clock_json.proofs.LexLaws.{at_byte, AllDigits-push, lex-digits, digit_is, first_of, alone}
use Rattle.clock_json.proofs.CompactLaws.{digit_more}
use Rattle.clock_json.proofs.digits.digits_up_to.Goals as goal

pub overflow_mul-value : goal.overflow_mul-value
overflow_mul-value c =
    let l = c.digits in
    let more = digit_more l.value (length l.invariant.0) 0 l.invariant.5
    (omega (arith, l.invariant.4, c.digits-test.true, c.requires.few)) (omega arith) in
    record { fits = omega (arith, more.1) }

pub overflow_add-value : goal.overflow_add-value
overflow_add-value c =
    let l = c.digits in
    let more = digit_more l.value (length l.invariant.0) 0 l.invariant.5
    (omega (arith, l.invariant.4, c.digits-test.true, c.requires.few)) (omega arith) in
    record { fits = omega (arith, more.1, c.in-Some.ensures.0) }

pub digits-preserved : goal.digits-preserved
digits-preserved c =
    let l = c.digits in
    let ds = l.invariant.0 in
    let bytes = c.args.bytes.now in
    let digit = c.in-Some.digit in
    let d = digit + 48 in
    let one = c.in-Some.ensures.0 in
    let v = digit_is d (omega arith) (omega (arith, one)) in
    let more = digit_more l.value (length ds) digit l.invariant.5
    (omega (arith, l.invariant.4, c.digits-test.true, c.requires.few)) one in
    let size = length-append ds (d ∷ []) in (
      ds ++ d ∷ [],
      l.invariant.1 ∙ ap (λ r. ds ++ r) (at_byte bytes l.end d (omega (arith, c.requires.within, c.digits-test.true))
          c.in-Some.ensures.1) ∙ sym (append_assoc ds (d ∷ []) (drop (l.end + 1) bytes)),
      AllDigits-push ds d l.invariant.2 (omega (arith, v, one)),
      digits_value_push 10 ds d ∙ omega (arith, v, l.invariant.3),
      omega (arith, size, l.invariant.4),
      subst (λ n. l.value * 10 + digit < 10 ^ n) (sym size) more.0,
      omega (arith, more.1),
      omega (arith, c.digits-test.true),
    )

pub returns : goal.returns
returns c =
    let l = c.digits in
    let ds = l.invariant.0 in
    let bytes = c.args.bytes.now in
    let some : 0 < length ds = omega (arith, l.invariant.4, c.if-end-start.false) in
    let first = first_of bytes ds c.args.start l.end l.invariant.1 some in
    record {
      few = (omega (arith, l.invariant.4, some), omega (arith, l.invariant.7));
      small = omega (arith, l.invariant.6);
      value = λ ended. ap (lex between) l.invariant.1
          ∙ lex-digits ds (drop l.end bytes) l.value l.invariant.2 l.invariant.3 (omega (arith, l.invariant.6)) some
          (λ e. omega (
            arith,
            alone (get_or bytes c.args.start 0) (l.end - c.args.start) c.if-bytes-start.false (sym first ∙ e),
            l.invariant.4,
          )) ended;
    }
