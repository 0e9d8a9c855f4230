use Rattle.std.proofs.Common.{◌≡◌, take}
use Rattle.clock_terms.proofs.grid.Grid.copy_over.Given as goal

-- the copied rows are the first rows of the grid
abbrev pub invariant-loop-row : goal.invariant-loop-row
invariant-loop-row l = l.rows.items ≡ take l.row-index l.row-items
