-- The text is what was put into the buffer.
use Rattle.std.proofs.Common.{[], Some, ap, ◌∙◌}
use Rattle.clock_device.specs.Reports.{unused}
use Rattle.clock_device.proofs.Buffers.{begun}
use Rattle.clock_reports.specs.ReportText.{report_text}
use Rattle.clock_reports.specs.Writers.{WriterFields}
use Rattle.clock_reports.proofs.report_lines.report_text.Goals as goal

pub returns : goal.returns
returns c =
    let buffer = ap (λ (writer : WriterFields). writer.buffer) (c.writer.view_is ∙ c.in_ok-writer.ensures) in
    let rounds = c.write_sheets.ensures (unused (Some [])) [] (begun _ _ _ c.new-sink.ensures buffer) in
    c.finish.ensures (report_text c.args.report.now) (c.write_report_wins.ensures (unused (Some [])) _ rounds)
