use Rattle.std.proofs.Common.{◌≡◌, ℕ, ◌+◌, ◌*◌, ◌<◌, ◌≤◌, ◌-◌, min, length, drop}
use Rattle.std.specs.Prelude.{slice_index}
use Rattle.clock_terms.specs.Eligibility.{activity}
use Rattle.clock_terms.specs.Limits.{cap_of}
use Rattle.clock_setup.proofs.opening_scan.capped_activity.Given as goal

-- the demands so far are within their caps; the activity so far plus the activity of the rest is the activity of the
-- row; the sum so far is bounded
abbrev pub invariant-held : goal.invariant-held
invariant-held l = record {
  row : l.held.demands ≡ l.row;
  capped : (k : ℕ) → k < l.held.from → slice_index l.row k ≤ cap_of l.products k;
  so_far : l.total + activity (drop l.held.from l.products) (drop l.held.from l.row) ≡ activity l.products l.row;
  small : l.total ≤ 1000000000 * min l.held.from (length l.row);
}

abbrev pub decreases-held : goal.decreases-held
decreases-held l = length l.row - l.held.from
