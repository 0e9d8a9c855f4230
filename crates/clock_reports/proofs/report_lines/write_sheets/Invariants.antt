use Rattle.std.proofs.Common.{drop}
use Rattle.std.specs.List.{flat_map}
use Rattle.clock_device.specs.Buffers.{output}
use Rattle.clock_posting.specs.SheetText.{sheet_text}
use Rattle.clock_device.specs.inside.Ways.{IsOnWay}
use Rattle.clock_reports.proofs.report_lines.write_sheets.Given as goal

-- the lines of the rounds still to come are left
abbrev pub invariant-loop-sheet : goal.invariant-loop-sheet
invariant-loop-sheet g l = IsOnWay (output (g.W.Sink.report l.initial.sink) l.initial.buffer)
    (output (g.W.Sink.report l.sink) l.buffer)
    (flat_map (sheet_text l.report.setup.products) (drop l.sheet-index l.report.sheets))
    (flat_map (sheet_text l.report.setup.products) l.report.sheets)
