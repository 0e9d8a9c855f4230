use Rattle.std.proofs.Common.{◌≡◌, [], length}
use Rattle.clock_journal.specs.inside.Replays.{IsOnWay}
use Rattle.clock_journal.specs.Resuming.{NoneRefused}
use Rattle.clock_journal.proofs.recovery.recover.Given as goal

-- some texts were taken and counted, none of which is refused, and the rest is left
abbrev pub invariant-loop-chain : goal.invariant-loop-chain
invariant-loop-chain g l =
    (way : IsOnWay (λ digest texts. g.M.Machine.stands_for l.initial.machine l.digest []
    → g.M.Machine.stands_for l.machine digest texts) l.digest l.bytes l.chain l.texts l.rest)
    × NoneRefused (λ past text. g.M.Machine.stands_for l.initial.machine l.digest []
    × g.M.Machine.refuses (g.M.Machine.rules l.initial.machine) past text) [] way.texts
    × (g.M.Machine.rules l.machine ≡ g.M.Machine.rules l.initial.machine)

abbrev pub decreases-loop-chain : goal.decreases-loop-chain
decreases-loop-chain g l = length l.rest
