use Rattle.std.proofs.Common.{◌+◌, ◌-◌, ◌*◌, ◌<◌, ℕ, arith, subst, sym}
use Rattle.clock_json.specs.inside.Digits.{HasCounted, weight}
use Rattle.clock_json.proofs.DigitLaws.{step, weighed, none_counted, all_counted, digit_lane}
use Rattle.clock_json.proofs.digits.value_of.Goals as goal

pub loop-i-init : goal.loop-i-init
loop-i-init c = none_counted c.args.bytes.now c.args.at c.args.count

pub overflow_mul-value : goal.overflow_mul-value
overflow_mul-value c =
    let bytes = c.args.bytes.now in
    let at = c.args.at in
    let i = c.loop-i.i in
    let place = 8 - c.args.count + i in
    record {
      fits = subst (λ (digit : ℕ). digit * weight place < 4294967296)
          (sym (digit_lane bytes at i c.requires.room c.loop-i-test.true))
          (weighed _ place (c.type_inv.bytes (at + i)).fits (omega (arith, c.requires.most, c.loop-i-test.true)));
    }

pub overflow_add-value-in-loop-i : goal.overflow_add-value-in-loop-i
overflow_add-value-in-loop-i c =
    let bytes = c.args.bytes.now in
    let at = c.args.at in
    let i = c.loop-i.i in
    record {
      fits = subst (λ (digit : ℕ). c.loop-i.value + digit * weight (8 - c.args.count + i) < 4294967296)
          (sym (digit_lane bytes at i c.requires.room c.loop-i-test.true))
          (step bytes at c.args.count i c.requires.most c.loop-i-test.true c.loop-i.value
          (omega (arith, c.requires.room)) c.requires.digits (c.type_inv.bytes (at + i)).fits
          c.loop-i.auto.value-fits.fits c.loop-i.invariant).0;
    }

pub loop-i-preserved : goal.loop-i-preserved
loop-i-preserved c =
    let bytes = c.args.bytes.now in
    let at = c.args.at in
    let i = c.loop-i.i in
    subst (λ (digit : ℕ). HasCounted bytes at c.args.count (i + 1)
    (c.loop-i.value + digit * weight (8 - c.args.count + i)))
    (sym (digit_lane bytes at i c.requires.room c.loop-i-test.true))
    (step bytes at c.args.count i c.requires.most c.loop-i-test.true c.loop-i.value
    (omega (arith, c.requires.room)) c.requires.digits (c.type_inv.bytes (at + i)).fits
    c.loop-i.auto.value-fits.fits c.loop-i.invariant).1

pub returns-clause-digits : goal.returns-clause-digits
returns-clause-digits c = (all_counted c.args.bytes.now c.args.at c.args.count c.loop-i.i c.loop-i.value c.requires.most
    (omega (arith, c.loop-i-test.false)) c.loop-i.invariant).0

pub returns-clause-value : goal.returns-clause-value
returns-clause-value c = (all_counted c.args.bytes.now c.args.at c.args.count c.loop-i.i c.loop-i.value c.requires.most
    (omega (arith, c.loop-i-test.false)) c.loop-i.invariant).1
