use Rattle.std.proofs.Common.{◌≡◌, ℕ, ◌+◌, ◌-◌, ◌<◌, ◌≤◌, length}
use Rattle.std.specs.Prelude.{slice_index}
use Rattle.clock_terms.proofs.row.Row.cells.Given as goal

-- the cells of the products so far have their demands, and the others have 0
abbrev pub invariant-held : goal.invariant-held
invariant-held l = record {
  row : l.held.demands ≡ l.self;
  each : length l.cells ≡ length l.initial.cells;
  added : (product : ℕ) → product < l.held.from → product < length l.initial.cells
      → slice_index l.cells product ≡ slice_index l.initial.cells product + slice_index l.self product;
  ahead : (product : ℕ) → l.held.from ≤ product → slice_index l.cells product ≡ slice_index l.initial.cells product;
}

abbrev pub decreases-held : goal.decreases-held
decreases-held l = length l.self - l.held.from
