use Rattle.std.proofs.Common.{◌≤◌, length}
use Rattle.std.specs.Prelude.{count_by, nat_le}
use Rattle.clock_queue.specs.inside.Lines.{IsSpent}
use Rattle.clock_queue.proofs.lines.Line.first_waiting.Given as goal

-- only costs of requests with nothing left were spent
abbrev pub invariant-spent : goal.invariant-spent
invariant-spent l = record {
  lengths : length l.self-inside.costs ≤ length l.self-inside.places.items;
  spent : IsSpent l.left l.fn.self (record { places = l.self-inside.places.items; costs = l.self-inside.costs });
}

-- the number of costs within the limit
abbrev pub decreases-spent : goal.decreases-spent
decreases-spent l = count_by (λ cost. nat_le cost l.limit) l.self-inside.costs
