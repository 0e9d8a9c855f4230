use Rattle.std.proofs.Common.{◌≡◌, drop}
use Rattle.clock_terms.specs.Faults.{first_fault, in_turn}
use Rattle.clock_setup.proofs.setup_checks.check_all.Given as goal

-- the entries so far are within their limits, and those that are left decide the first fault
abbrev pub invariant-loop-i : goal.invariant-loop-i
invariant-loop-i g l = first_fault (in_turn g.E.LimitedEntry.checks l.i (drop l.i l.entries))
    ≡ first_fault (in_turn g.E.LimitedEntry.checks 0 l.entries)
