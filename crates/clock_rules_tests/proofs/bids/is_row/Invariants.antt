use Rattle.std.proofs.Common.{ℕ, ◌<◌, ◌≤◌}
use Rattle.std.specs.Prelude.{slice_index}
use Rattle.clock_terms.specs.Limits.{cap_of}
use Rattle.clock_rules_tests.proofs.bids.is_row.Given as goal

-- the demands so far are within the caps
abbrev pub invariant-loop-i : goal.invariant-loop-i
invariant-loop-i l = (k : ℕ) → k < l.i → slice_index l.demands k ≤ cap_of l.products k
