-- Proves what serving a stream did, from the answer to its request and how the reply was written.
use Rattle.std.proofs.Common.{List, ℕ, refl, sym, subst, ◌∙◌}
use Rattle.clock_device.proofs.Streams.{same_bytes}
use Rattle.clock_device.specs.Streams.{HasWritten, HasWrittenFront}
use Rattle.clock_front.proofs.StreamLaws.{served_answer, served_none}
use Rattle.clock_front.proofs.stream.serve_stream.Goals as goal

pub returns-in-None-clause-served : goal.returns-in-None-clause-served
returns-in-None-clause-served g c = (
  c.in-None.ensures.answer,
  record { unused = c.requires.unused; bytes = same_bytes (g.W.Sink.report c.args.sink.now).taken },
)

pub returns-in-None-clause-stands : goal.returns-in-None-clause-stands
returns-in-None-clause-stands g c =
    served_none c.args.front.now c.answer_next.new.front c.in-None.ensures.answer.1

pub returns-in-Ok-clause-served : goal.returns-in-Ok-clause-served
returns-in-Ok-clause-served g c = (
  c.in-Some.reply,
  c.in-Some.ensures.answer,
  sym c.code-code.ensures,
  record {
    bytes = subst (λ (b : List ℕ). HasWritten (g.W.Sink.report c.args.sink.now).taken
        (g.W.Sink.report c.write_all-written.new.sink).taken b) c.bytes.ensures c.in-Ok.ensures.bytes;
    unfailed = c.in-Ok.ensures.failed ∙ rw c.requires.unused.unfailed refl;
  },
)

pub returns-in-Ok-clause-stands : goal.returns-in-Ok-clause-stands
returns-in-Ok-clause-stands g c = served_answer
    (record { before = g.R.Source.report c.args.source.now; after = g.R.Source.report c.answer_next.new.source })
    c.in-Some.reply c.args.front.now c.answer_next.new.front c.in-Some.ensures.answer

pub returns-in-Err-clause-served : goal.returns-in-Err-clause-served
returns-in-Err-clause-served g c = (
  c.in-Some.reply,
  c.in-Some.ensures.answer,
  sym c.code-code.ensures,
  record {
    bytes = subst (λ (b : List ℕ). HasWrittenFront (g.W.Sink.report c.args.sink.now).taken
        (g.W.Sink.report c.write_all-written.new.sink).taken b) c.bytes.ensures c.in-Err.ensures.bytes;
    failed = c.in-Err.ensures.failed ∙ rw c.requires.unused.unfailed refl;
  },
)

pub returns-in-Err-clause-stands : goal.returns-in-Err-clause-stands
returns-in-Err-clause-stands g c = served_answer
    (record { before = g.R.Source.report c.args.source.now; after = g.R.Source.report c.answer_next.new.source })
    c.in-Some.reply c.args.front.now c.answer_next.new.front c.in-Some.ensures.answer
