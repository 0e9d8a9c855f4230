use Rattle.std.proofs.Common.{◌≡◌, ◌+◌, ◌≤◌, length, map}
use Rattle.std.specs.List.{range_with_len}
use Rattle.clock_posting.specs.inside.Parts.{least_price}
use Rattle.clock_posting.proofs.posting.least_prices.Given as goal

-- The list has the least posted prices of the products so far, and capacity for the others.
abbrev pub invariant-loop-i : goal.invariant-loop-i
invariant-loop-i l = record {
  so_far : l.least.items ≡ map (least_price l.products l.prices l.grid) (range_with_len 0 l.i);
  room : length l.products ≤ l.i + l.least.room;
}
