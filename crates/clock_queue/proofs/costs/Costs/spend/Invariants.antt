use Rattle.std.proofs.Common.{◌≡◌, ◌-◌, set, length}
use Rattle.clock_queue.specs.inside.Costs.{HasBounds, spent}
use Rattle.clock_queue.proofs.costs.Costs.spend.Given as goal

-- the bounds fit the costs, and the cost is spent
abbrev pub invariant-passed : goal.invariant-passed
invariant-passed l = record {
  bounds : HasBounds l.self-inside.costs.items l.self-inside.bounds.items l.self-inside.passed;
  costs : l.self-inside.costs.items ≡ set l.fn.self l.place spent;
}

-- the number of blocks that are not passed
abbrev pub decreases-passed : goal.decreases-passed
decreases-passed l = length l.self-inside.bounds.items - l.self-inside.passed
