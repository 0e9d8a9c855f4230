use Rattle.std.proofs.Common.{◌*◌}
use Rattle.clock_queue.specs.inside.Costs.{AreFrom}
use Rattle.clock_queue.proofs.costs.least_in.Given as goal

-- no cost so far is below `least`
abbrev pub invariant-loop-place : goal.invariant-loop-place
invariant-loop-place l = AreFrom l.least l.costs (64 * l.block) l.place
