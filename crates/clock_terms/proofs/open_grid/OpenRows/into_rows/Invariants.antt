use Rattle.std.proofs.Common.{◌≡◌, ℕ, ◌<◌, ◌≤◌, length}
use Rattle.clock_terms.specs.Demands.{row_of}
use Rattle.clock_terms.proofs.open_grid.OpenRows.into_rows.Given as goal

-- the rows so far have the demands of their cells, and the others those that they had
abbrev pub invariant-loop-bidder : goal.invariant-loop-bidder
invariant-loop-bidder l = record {
  each : length l.rows.items ≡ length l.initial.rows.items;
  written : (k : ℕ) → k < l.bidder → row_of l.rows.items k ≡ row_of l.cells.items k;
  rest : (k : ℕ) → l.bidder ≤ k → row_of l.rows.items k ≡ row_of l.initial.rows.items k;
}
