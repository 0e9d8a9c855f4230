-- Answers by name what the prover also finds by itself, so that it refuses a wrong body sooner.
use Rattle.std.proofs.Common.{rules}
use Rattle.clock_queue.proofs.woken.WokenProcessor.settle.Goals as goal

pub returns-clause-tests : goal.returns-clause-tests
returns-clause-tests c = search rules
