use Rattle.std.proofs.Common.{◌≡◌, ◌-◌, length}
use Rattle.clock_bids.proofs.maintained.next_from.Given as goal

abbrev pub invariant-passed : goal.invariant-passed
invariant-passed l = l.held.demands ≡ l.initial.held.demands

abbrev pub decreases-passed : goal.decreases-passed
decreases-passed l = length l.held.demands - l.held.from
