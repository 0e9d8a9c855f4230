use Rattle.std.proofs.Common.{◌≡◌, ◌-◌, ◌^◌, []}
use Rattle.clock_journal.specs.Resuming.{NoneRefused}
use Rattle.clock_journal.specs.inside.Pieces.{CountsOn, IsReadOnWay}
use Rattle.clock_journal.proofs.reading.take_records.Given as goal

-- some texts were read, taken, and counted, none of which is refused
abbrev pub invariant-loop-chain : goal.invariant-loop-chain
invariant-loop-chain g l =
    (way : IsReadOnWay (λ digest texts. g.M.Machine.stands_for l.initial.machine l.digest []
    → g.M.Machine.stands_for l.machine digest texts) l.digest (g.S.Source.report l.initial.source).left
    (g.S.Source.report l.source).left l.chain l.texts l.end)
    × NoneRefused (λ past text. g.M.Machine.stands_for l.initial.machine l.digest []
    × g.M.Machine.refuses (g.M.Machine.rules l.initial.machine) past text) [] way.texts
    × (g.M.Machine.rules l.machine ≡ g.M.Machine.rules l.initial.machine)
    × CountsOn (g.S.Source.report l.initial.source) (g.S.Source.report l.source)

abbrev pub decreases-loop-chain : goal.decreases-loop-chain
decreases-loop-chain g l = 2 ^ 64 - l.end
