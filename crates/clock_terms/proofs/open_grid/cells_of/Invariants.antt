use Rattle.std.proofs.Common.{◌≡◌, take}
use Rattle.clock_terms.proofs.open_grid.cells_of.Given as goal

-- the cells so far have the demands of the first rows
abbrev pub invariant-loop-row : goal.invariant-loop-row
invariant-loop-row l = l.cells.items ≡ take l.row-index l.row-items
