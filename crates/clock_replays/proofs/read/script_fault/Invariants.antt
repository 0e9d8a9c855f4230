use Rattle.std.proofs.Common.{◌≡◌, ◌≤◌, ◌-◌, drop, length, zip}
use Rattle.clock_terms.specs.Faults.{first_fault, in_turn}
use Rattle.clock_replays.specs.ReplayChecks.{limit_checks, script_checks}
use Rattle.clock_replays.proofs.read.script_fault.Given as goal

-- the limits that are left decide the first fault
abbrev pub invariant-limited : goal.invariant-limited
invariant-limited l = record {
  within : l.product ≤ length l.limits;
  rest : first_fault (in_turn (limit_checks l.bidder) l.product (drop l.product (zip l.products l.limits)))
      ≡ first_fault (script_checks l.products l.bidder l.script);
}

abbrev pub decreases-limited : goal.decreases-limited
decreases-limited l = length l.limits - l.product
