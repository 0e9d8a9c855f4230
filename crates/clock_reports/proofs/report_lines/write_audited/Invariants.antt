use Rattle.std.proofs.Common.{drop, zip}
use Rattle.std.specs.List.{flat_map}
use Rattle.clock_device.specs.Buffers.{output}
use Rattle.clock_device.specs.inside.Ways.{IsOnWay}
use Rattle.clock_reports.specs.ReportText.{audited_round}
use Rattle.clock_reports.proofs.report_lines.write_audited.Given as goal

-- the lines of the rounds still to come are left
abbrev pub invariant-loop-index : goal.invariant-loop-index
invariant-loop-index g l = IsOnWay (output (g.W.Sink.report l.initial.sink) l.initial.buffer)
    (output (g.W.Sink.report l.sink) l.buffer) (flat_map (audited_round l.report.setup.products)
    (zip (drop l.index l.report.sheets) (drop l.index l.digests)))
    (flat_map (audited_round l.report.setup.products) (zip l.report.sheets l.digests))
