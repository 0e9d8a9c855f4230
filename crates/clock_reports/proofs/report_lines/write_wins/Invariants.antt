use Rattle.std.proofs.Common.{drop, zip}
use Rattle.std.specs.List.{flat_map}
use Rattle.clock_device.specs.Buffers.{output}
use Rattle.clock_device.specs.inside.Ways.{IsOnWay}
use Rattle.clock_reports.specs.ReportText.{won_text}
use Rattle.clock_reports.proofs.report_lines.write_wins.Given as goal

-- the lines of the bidders still to come are left
abbrev pub invariant-loop-number : goal.invariant-loop-number
invariant-loop-number g l = IsOnWay (output (g.W.Sink.report l.initial.sink) l.initial.buffer)
    (output (g.W.Sink.report l.sink) l.buffer)
    (flat_map (won_text l.lines) (zip (drop l.number l.setup.bidders) (drop l.number l.grid)))
    (flat_map (won_text l.lines) (zip l.setup.bidders l.grid))
