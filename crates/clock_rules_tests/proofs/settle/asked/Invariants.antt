use Rattle.std.proofs.Common.{◌≡◌, ◌≤◌, ◌*◌, take}
use Rattle.clock_terms.specs.Requests.{asked_of}
use Rattle.clock_rules_tests.proofs.settle.asked.Given as goal

-- what the requests so far ask for
abbrev pub invariant-loop-change : goal.invariant-loop-change
invariant-loop-change l = record {
  so_far : l.blocks ≡ asked_of l.kind l.bidder l.product (take l.change-index l.changes);
  small : l.blocks ≤ 1000 * l.change-index;
}
