use Rattle.std.proofs.Common.{◌≤◌, ◌-◌, length, take}
use Rattle.clock_device.specs.Streams.{HasRead}
use Rattle.clock_journal.specs.inside.Pieces.{CountsOn}
use Rattle.clock_journal.proofs.reading.fill.Given as goal

-- the first bytes of the buffer were read
abbrev pub invariant-loop-done : goal.invariant-loop-done
invariant-loop-done g l = record {
  within : l.done ≤ length l.buffer;
  counted : CountsOn (g.S.Source.report l.initial.source) (g.S.Source.report l.source);
  read : HasRead (g.S.Source.report l.initial.source).left (g.S.Source.report l.source).left (take l.done l.buffer);
}

abbrev pub decreases-loop-done : goal.decreases-loop-done
decreases-loop-done g l = length l.buffer - l.done
