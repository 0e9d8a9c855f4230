use Rattle.std.proofs.Common.{◌≡◌, ◌+◌, ◌*◌, ◌-◌, ◌≤◌, min, length, drop}
use Rattle.clock_terms.specs.Eligibility.{activity}
use Rattle.clock_terms.proofs.eligibility.units_held.Given as goal

-- the activity so far plus the activity of the rest is the activity of the row; the sum so far is bounded
abbrev pub invariant-held : goal.invariant-held
invariant-held l = record {
  row : l.held.demands ≡ l.row;
  so_far : l.total + activity (drop l.held.from l.products) (drop l.held.from l.row) ≡ activity l.products l.row;
  small : l.total ≤ 1000000000 * min l.held.from (length l.row);
}

abbrev pub decreases-held : goal.decreases-held
decreases-held l = length l.row - l.held.from
