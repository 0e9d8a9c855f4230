use Rattle.std.proofs.Common.{ℕ, ◌<◌}
use Rattle.clock_terms.specs.Requests.{KeepWithinCap}
use Rattle.clock_rules_tests.proofs.settle.row_keeps_caps.Given as goal

-- the requests for the products so far keep the demands within the caps
abbrev pub invariant-loop-i : goal.invariant-loop-i
invariant-loop-i l = (product : ℕ) → product < l.i → KeepWithinCap l.products l.demands l.bidder l.changes product
