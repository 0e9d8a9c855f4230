-- A document that passes the checks is a replay.
use Rattle.std.proofs.Common.{◌≡◌, Some, None, sym, ap}
use Rattle.clock_terms.specs.Faults.{first_fault, unless}
use Rattle.clock_replays.specs.Replays.{ReplayFields}
use Rattle.clock_replays.specs.ReplayChecks.{replay_checks}
use Rattle.clock_replays.proofs.CheckLaws.{replay_within}
use Rattle.clock_replays.proofs.read.judged.Goals as goal

pub invariant_of-result : goal.invariant_of-result
invariant_of-result c =
    let all : ReplayFields = record { setup = c.args.setup; scripts = c.args.scripts; closings = c.args.closings } in
    let first : None ≡ first_fault (replay_checks all) =
    rw (← c.as_slice.ensures, ← c.as_slice-2.ensures) c.in-None.ensures.fault in
    replay_within all c.in-None.ensures.limits (sym first)

pub returns-in-Some-clause-err : goal.returns-in-Some-clause-err
returns-in-Some-clause-err c =
    let all : ReplayFields = record { setup = c.args.setup; scripts = c.args.scripts; closings = c.args.closings } in
    let first : Some c.in-Some.fault ≡ first_fault (replay_checks all) =
    rw (← c.as_slice.ensures, ← c.as_slice-2.ensures) c.in-Some.ensures.fault in
    λ known. ap (λ fault. unless fault all) (sym first)

pub returns-in-None-clause-ok : goal.returns-in-None-clause-ok
returns-in-None-clause-ok c =
    let all : ReplayFields = record { setup = c.args.setup; scripts = c.args.scripts; closings = c.args.closings } in
    let first : None ≡ first_fault (replay_checks all) =
    rw (← c.as_slice.ensures, ← c.as_slice-2.ensures) c.in-None.ensures.fault in
    ap (λ fault. unless fault all) (sym first)
