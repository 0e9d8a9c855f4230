-- Answers by name what the prover also finds by itself, so that it refuses a wrong body sooner.
use Rattle.std.proofs.Common.{rules}
use Rattle.clock_order.proofs.key.OrderKey.by_point.Goals as goal

pub returns : goal.returns
returns c = search rules
