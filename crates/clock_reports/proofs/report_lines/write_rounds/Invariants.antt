use Rattle.std.proofs.Common.{drop, map}
use Rattle.std.specs.Prelude.{reverse}
use Rattle.std.specs.List.{flat_map}
use Rattle.clock_device.specs.Buffers.{output}
use Rattle.clock_posting.specs.SheetText.{sheet_text}
use Rattle.clock_device.specs.inside.Ways.{IsOnWay}
use Rattle.clock_reports.proofs.report_lines.write_rounds.Given as goal

-- the lines of the rounds still to come are left
abbrev pub invariant-loop-round : goal.invariant-loop-round
invariant-loop-round g l =
    let sheets = map (λ closed. closed.sheet) (reverse l.house.closed) in
    IsOnWay (output (g.W.Sink.report l.initial.sink) l.initial.buffer) (output (g.W.Sink.report l.sink) l.buffer)
    (flat_map (sheet_text l.house.setup.products) (drop l.round sheets))
    (flat_map (sheet_text l.house.setup.products) sheets)
