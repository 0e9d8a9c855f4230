use Rattle.std.proofs.Common.{ℕ, ◌<◌, length}
use Rattle.clock_terms.specs.Demands.{row_of}
use Rattle.clock_terms.specs.Requests.{KeepWithinCap}
use Rattle.clock_rules_tests.proofs.settle.keep_caps.Given as goal

-- the requests of the bidders so far keep the demands within the caps
abbrev pub invariant-loop-bidder : goal.invariant-loop-bidder
invariant-loop-bidder l =
    (bidder product : ℕ) → bidder < l.bidder → product < length l.setup.products →
    KeepWithinCap l.setup.products (row_of l.grid bidder) bidder l.changes product
