-- Answers by name what the prover also finds by itself, so that it refuses a wrong body sooner.
use Rattle.std.proofs.Common.{rules}
use Rattle.clock_queue.proofs.queue.Queue.wake_bidder.Goals as goal

pub returns : goal.returns
returns c = search rules
