use Rattle.std.proofs.Common.{◌-◌, ◌^◌}
use Rattle.clock_journal.specs.Mirrors.{state_of}
use Rattle.clock_journal.specs.inside.Leveling.{IsCopied}
use Rattle.clock_journal.proofs.mirror.extend.Given as goal

-- the disk has what was missing, and all that was read
abbrev pub invariant-loop-count : goal.invariant-loop-count
invariant-loop-count g l = IsCopied (g.S.Source.report l.fn.source).left (g.S.Source.report l.source).left l.missing
    (state_of g.D.Durable l.fn.disk) (state_of g.D.Durable l.disk)

abbrev pub decreases-loop-count : goal.decreases-loop-count
decreases-loop-count g l = 2 ^ 64 - l.copied
