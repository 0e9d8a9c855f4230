-- If the number of entries is within its limits, the first fault of the entries left is the first fault of all.
use Rattle.std.proofs.Common.{Some, None, sym, ◌∙◌}
use Rattle.std.proofs.lemmas.Result.{err_from_is_err_and}
use Rattle.clock_setup.specs.declared.fault.SetupFault.TheVariants.{Range}
use Rattle.clock_terms.proofs.FaultLaws.{turn_passed, turn_failed, turn_none}
use Rattle.clock_setup.proofs.LimitLaws.{counted, uncounted}
use Rattle.clock_setup.proofs.setup_checks.check_all.Goals as goal

pub returns-in_err-check-clause-err : goal.returns-in_err-check-clause-err
returns-in_err-check-clause-err g c =
    let p = err_from_is_err_and c.from_residual.result c.from_residual.ensures.1 in
    let reported = c.in_err-check.ensures.err in
    rw (p.1, p.2, reported.1) (uncounted
    (Range c.args.place) c.args.most g.E.LimitedEntry.checks c.args.entries.now (sym c.is_within.ensures ∙ reported.0))

pub returns-in_err-check-2-clause-err : goal.returns-in_err-check-2-clause-err
returns-in_err-check-2-clause-err g c =
    let p = err_from_is_err_and c.from_residual-in_err-check-2.result c.from_residual-in_err-check-2.ensures.1 in
    rw (p.1, p.2) (counted (Range c.args.place) c.args.most g.E.LimitedEntry.checks c.args.entries.now (Some _)
    (sym c.is_within.ensures ∙ c.in_ok-check.ensures.ok) (sym c.loop-i.invariant
    ∙ turn_failed g.E.LimitedEntry.checks c.args.entries.now c.loop-i.i _ _ c.loop-i-test.true c.index-entries-i.is
    c.in_err-check-2.ensures.err))

pub loop-i-preserved : goal.loop-i-preserved
loop-i-preserved g c = sym (turn_passed g.E.LimitedEntry.checks c.args.entries.now c.loop-i.i _ c.loop-i-test.true
    c.index-entries-i.is c.in_ok-check-2.ensures.ok) ∙ c.loop-i.invariant

pub returns-clause-ok : goal.returns-clause-ok
returns-clause-ok g c = counted (Range c.args.place) c.args.most g.E.LimitedEntry.checks c.args.entries.now None
    (sym c.is_within.ensures ∙ c.in_ok-check.ensures.ok)
    (sym c.loop-i.invariant ∙ turn_none g.E.LimitedEntry.checks c.args.entries.now c.loop-i.i c.loop-i-test.false)
