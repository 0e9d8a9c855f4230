use Rattle.std.proofs.Common.{◌≡◌, ℕ, ◌<◌, length, take}
use Rattle.std.specs.Prelude.{slice_index}
use Rattle.clock_terms.specs.Demands.{total_of}
use Rattle.clock_terms.proofs.grid.Grid.of_rows.Given as goal

-- the totals are those of the rows so far
abbrev pub invariant-loop-row : goal.invariant-loop-row
invariant-loop-row l = record {
  each : length l.totals ≡ length l.setup.products;
  totals : (product : ℕ) → product < length l.setup.products
      → slice_index l.totals product ≡ total_of (take l.row-index l.row-items) product;
}
