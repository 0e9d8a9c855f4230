use Rattle.std.proofs.Common.{◌≡◌, drop}
use Rattle.clock_terms.specs.Faults.{first_fault, in_turn}
use Rattle.clock_replays.specs.ReplayChecks.{script_checks}
use Rattle.clock_replays.proofs.read.replay_fault.Given as goal

-- the scripts that are left decide the first fault
abbrev pub invariant-loop-bidder : goal.invariant-loop-bidder
invariant-loop-bidder l =
    first_fault (in_turn (script_checks l.products) l.bidder (drop l.bidder l.scripts))
    ≡ first_fault (in_turn (script_checks l.products) 0 l.scripts)
