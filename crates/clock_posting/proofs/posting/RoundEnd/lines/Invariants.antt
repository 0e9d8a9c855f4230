use Rattle.std.proofs.Common.{◌≡◌, ◌+◌, ◌≤◌, length, map}
use Rattle.std.specs.List.{range_with_len}
use Rattle.clock_posting.specs.Posting.{sheet_line}
use Rattle.clock_posting.proofs.posting.RoundEnd.lines.Given as goal

-- The list has the lines of the products so far, and capacity for the others.
abbrev pub invariant-loop-product : goal.invariant-loop-product
invariant-loop-product l = record {
  lengths : length l.lines.items ≡ l.product;
  room : length l.self.products.now ≤ l.product + l.lines.room;
  so_far : l.lines.items ≡ map (sheet_line l.self.products.now l.self.prices.now l.self.grid.now l.self.posted.now
      l.self.increments.now) (range_with_len 0 l.product);
}
