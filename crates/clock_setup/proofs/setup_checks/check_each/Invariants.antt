use Rattle.std.proofs.Common.{◌≡◌, drop}
use Rattle.clock_terms.specs.Faults.{first_fault, in_turn}
use Rattle.clock_setup.specs.inside.SetupDocument.{range_check}
use Rattle.clock_setup.proofs.setup_checks.check_each.Given as goal

-- the tests so far pass, and those that are left decide the first fault
abbrev pub invariant-loop-test : goal.invariant-loop-test
invariant-loop-test l = first_fault (in_turn range_check l.test-index (drop l.test-index l.tests))
    ≡ first_fault (in_turn range_check 0 l.tests)
