use Rattle.std.proofs.Common.{◌≡◌, ℕ, ◌+◌, ◌-◌, ◌<◌, ◌≤◌, length}
use Rattle.std.specs.Prelude.{slice_index}
use Rattle.clock_terms.proofs.grid.add_row.Given as goal

-- the demands of the products so far are added, and no others
abbrev pub invariant-held : goal.invariant-held
invariant-held l = record {
  row : l.held.demands ≡ l.row;
  each : length l.totals ≡ length l.initial.totals;
  added : (product : ℕ) → product < l.held.from → product < length l.initial.totals
      → slice_index l.totals product ≡ slice_index l.initial.totals product + slice_index l.row product;
  ahead : (product : ℕ) → l.held.from ≤ product → slice_index l.totals product ≡ slice_index l.initial.totals product;
}

abbrev pub decreases-held : goal.decreases-held
decreases-held l = length l.row - l.held.from
