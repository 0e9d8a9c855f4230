use Rattle.std.proofs.Common.{◌≡◌, ◌≤◌, ◌-◌, ◌^◌, length}
use Rattle.clock_journal.specs.inside.Leveling.{AreSame}
use Rattle.clock_journal.proofs.mirror.compare.Given as goal

-- so far, the same bytes were read of both
abbrev pub invariant-loop-count : goal.invariant-loop-count
invariant-loop-count g l = (length l.here ≡ length l.there) × (1 ≤ length l.here)
    × AreSame (g.S.Source.report l.initial.one).left (g.S.Source.report l.one).left
    (g.T.Source.report l.initial.other).left (g.T.Source.report l.other).left l.place

abbrev pub decreases-loop-count : goal.decreases-loop-count
decreases-loop-count g l = 2 ^ 64 - l.place
