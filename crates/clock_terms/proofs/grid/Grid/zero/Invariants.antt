use Rattle.std.proofs.Common.{◌≡◌, replicate}
use Rattle.clock_terms.proofs.grid.Grid.zero.Given as goal

-- each row so far is one of demands of 0
abbrev pub invariant-loop-bidder : goal.invariant-loop-bidder
invariant-loop-bidder l = l.rows.items ≡ replicate l._bidder (replicate l.products 0)
