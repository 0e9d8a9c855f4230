use Rattle.std.proofs.Common.{◌*◌}
use Rattle.clock_queue.specs.inside.Costs.{AreAbove}
use Rattle.clock_queue.proofs.costs.Costs.first_within.Given as goal

-- no cost of the blocks so far is within the limit
abbrev pub invariant-loop-block : goal.invariant-loop-block
invariant-loop-block l = AreAbove l.limit l.self 0 (64 * l.block)
