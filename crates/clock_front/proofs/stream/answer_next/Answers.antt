-- Proves the answer to the next request, from how it was read.
use Rattle.std.proofs.Common.{refl, inl, inr}
use Rattle.clock_front.proofs.stream.answer_next.Goals as goal

pub returns-in-Ok-clause-answer : goal.returns-in-Ok-clause-answer
returns-in-Ok-clause-answer g c = inl (
  c.in-Ok.request,
  c.in-Ok.ensures.arrival,
  c.answer_framed.ensures.answered c.in-Ok.request c.framing.ensures,
)

pub returns-in-Err-Memory-clause-answer : goal.returns-in-Err-Memory-clause-answer
returns-in-Err-Memory-clause-answer g c =
    inr (rw c.in-Err-Memory.field-0-is at c.in-Err-Memory.ensures.arrival, c.no_memory_reply.ensures, refl)

pub returns-in-Err-Read-clause-answer : goal.returns-in-Err-Read-clause-answer
returns-in-Err-Read-clause-answer g c = (rw c.in-Err-Read.field-0-is at c.in-Err-Read.ensures.arrival, refl)
