use Rattle.std.proofs.Common.{drop}
use Rattle.clock_device.specs.Buffers.{output}
use Rattle.clock_posting.specs.SheetText.{lines_text}
use Rattle.clock_device.specs.inside.Ways.{IsOnWay}
use Rattle.clock_posting.proofs.sheet.write_sheet.Given as goal

-- The lines of the products still to come are left.
abbrev pub invariant-loop-i : goal.invariant-loop-i
invariant-loop-i g l = IsOnWay (output (g.W.Sink.report l.initial.sink) l.initial.buffer)
    (output (g.W.Sink.report l.sink) l.buffer) (lines_text (drop l.i l.products) (drop l.i l.sheet.lines))
    (lines_text l.products l.sheet.lines)
