-- Proves the code of a request that is refused for its head or its length, from the contract of `answer_framed`.
use Rattle.std.proofs.Common.{◌∙◌}
use Rattle.clock_front.proofs.front.Front.answer.Goals as goal

pub returns-clause-refused : goal.returns-clause-refused
returns-clause-refused g c = λ code is. c.answer_framed.ensures.refused code (c.frame.ensures ∙ is)
