-- The text is what was put into the buffer.
use Rattle.std.proofs.Common.{[], ap, refl, ◌∙◌}
use Rattle.clock_device.proofs.Buffers.{begun}
use Rattle.clock_reports.specs.Writers.{WriterFields}
use Rattle.clock_reports.proofs.report_lines.ReportWriter.write.Goals as goal

pub returns-clause-bytes : goal.returns-clause-bytes
returns-clause-bytes g c =
    let start = g.W.Sink.report c.args.sink.now in
    let buffer = ap (λ (writer : WriterFields). writer.buffer) (c.self.view_is ∙ c.requires.fresh) in
    let rounds = c.write_rounds.ensures start [] (begun start start c.self.inside.buffer refl buffer) in
    (c.finish.ensures.written start _ (c.write_last.ensures start _ rounds)).bytes

pub returns-clause-failed : goal.returns-clause-failed
returns-clause-failed g c =
    let start = g.W.Sink.report c.args.sink.now in
    let buffer = ap (λ (writer : WriterFields). writer.buffer) (c.self.view_is ∙ c.requires.fresh) in
    let rounds = c.write_rounds.ensures start [] (begun start start c.self.inside.buffer refl buffer) in
    (c.finish.ensures.written start _ (c.write_last.ensures start _ rounds)).failed
