use Rattle.std.proofs.Common.{◌*◌}
use Rattle.clock_queue.specs.inside.Costs.{AreAbove}
use Rattle.clock_queue.proofs.costs.first_in.Given as goal

-- no cost so far is within the limit
abbrev pub invariant-loop-place : goal.invariant-loop-place
invariant-loop-place l = AreAbove l.limit l.costs (64 * l.block) l.place
