-- The text is what was put into the buffer.
use Rattle.std.proofs.Common.{[], Some, ap, ◌∙◌}
use Rattle.clock_device.specs.Reports.{unused}
use Rattle.clock_device.proofs.Buffers.{begun}
use Rattle.clock_reports.specs.ReportText.{audit_text}
use Rattle.clock_reports.specs.Writers.{WriterFields}
use Rattle.clock_reports.proofs.report_lines.audit_text.Goals as goal

pub returns : goal.returns
returns c =
    let buffer = ap (λ (writer : WriterFields). writer.buffer) (c.writer.view_is ∙ c.in_ok-writer.ensures) in
    let rounds = c.write_audited.ensures (unused (Some [])) [] (begun _ _ _ c.new-sink.ensures buffer) in
    c.finish.ensures (audit_text c.args.report.now c.args.digests.now) (c.write_end.ensures (unused (Some [])) _ rounds)
