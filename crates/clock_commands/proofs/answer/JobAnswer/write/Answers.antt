-- A report is written by itself.
use Rattle.std.proofs.Common.{sym, subst}
use Rattle.clock_device.specs.Streams.{WritesText}
use Rattle.clock_commands.specs.inside.Answered.{text_of_answer}
use Rattle.clock_commands.proofs.answer.JobAnswer.write.Goals as goal

pub returns-in-Report-clause-bytes : goal.returns-in-Report-clause-bytes
returns-in-Report-clause-bytes g c = subst
    (λ answer. WritesText (g.W.Sink.report c.args.sink.now).taken (g.W.Sink.report c.write.new.sink).taken
    (text_of_answer answer) c.write.result) (sym c.in-Report.is) c.write.ensures.bytes
