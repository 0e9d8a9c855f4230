use Rattle.std.proofs.Common.{◌≡◌, length}
use Rattle.clock_rules_tests.proofs.settle.eligibilities.Given as goal

-- one amount for each bidder so far
abbrev pub invariant-loop-bidder : goal.invariant-loop-bidder
invariant-loop-bidder l = length l.amounts ≡ l.bidder-index
