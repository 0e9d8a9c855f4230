-- The first test that fails decides; at the end none is left.
use Rattle.std.proofs.Common.{◌≡◌, ℕ, ◌+◌, ◌<◌, Bool, true, false, List, length, get_or, drop, Some, refl, sym, ◌∙◌}
use Rattle.std.proofs.lemmas.List.{get_or_default}
use Rattle.std.proofs.lemmas.Result.{err_from_is_err_and}
use Rattle.clock_terms.specs.Faults.{first_fault, in_turn}
use Rattle.clock_terms.proofs.FaultLaws.{turn_passed, turn_failed, turn_none}
use Rattle.clock_setup.specs.declared.fault.Place.{Place}
use Rattle.clock_setup.specs.declared.fault.SetupFault.TheVariants.{Range}
use Rattle.clock_setup.specs.inside.SetupDocument.{range_check}
use Rattle.clock_setup.proofs.setup_checks.check_each.Goals as goal

module _ (tests : List (Place × Bool)) (i : ℕ) (d : Place × Bool) (below : i < length tests) where
  test_passed : (get_or tests i d).1 ≡ true → first_fault (in_turn range_check i (drop i tests))
      ≡ first_fault (in_turn range_check (i + 1) (drop (i + 1) tests))
  test_passed is = turn_passed range_check tests i (get_or tests i d) below
      (get_or_default tests i d (get_or tests i d) below) (rw is refl)

  test_failed : (get_or tests i d).1 ≡ false
      → first_fault (in_turn range_check i (drop i tests)) ≡ Some (Range (get_or tests i d).0)
  test_failed is = turn_failed range_check tests i (get_or tests i d) (Range (get_or tests i d).0) below
      (get_or_default tests i d (get_or tests i d) below) (rw is refl)

pub returns-in_err-check-clause-err : goal.returns-in_err-check-clause-err
returns-in_err-check-clause-err c =
    let p = err_from_is_err_and c.from_residual.result c.from_residual.ensures.1 in
    let reported = c.in_err-check.ensures.err in
    rw (p.1, p.2, reported.1) (sym c.loop-test.invariant
    ∙ test_failed c.args.tests.now c.loop-test.test-index _ c.loop-test-test.true reported.0)

pub loop-test-preserved : goal.loop-test-preserved
loop-test-preserved c =
    sym (test_passed c.args.tests.now c.loop-test.test-index _ c.loop-test-test.true c.in_ok-check.ensures.ok)
    ∙ c.loop-test.invariant

pub returns-clause-ok : goal.returns-clause-ok
returns-clause-ok c = sym c.loop-test.invariant
    ∙ turn_none range_check c.args.tests.now c.loop-test.test-index c.loop-test-test.false
