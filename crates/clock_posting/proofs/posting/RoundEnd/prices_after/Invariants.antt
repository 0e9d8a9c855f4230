use Rattle.std.proofs.Common.{◌≡◌, ◌+◌, ◌-◌, ◌≤◌, Some, length, map}
use Rattle.std.specs.Prelude.{is_none, All}
use Rattle.std.specs.List.{position_from, range_with_len}
use Rattle.clock_posting.specs.inside.Parts.{first_at_limit}
use Rattle.clock_posting.specs.Posting.{next_clock, next_price, IsRising}
use Rattle.clock_posting.proofs.posting.RoundEnd.prices_after.Given as goal

-- The prices so far are the next ones and rise, and the list has capacity for the others. The first product whose next
-- clock price would be too high, if any, is among the others.
abbrev pub invariant-loop-product : goal.invariant-loop-product
invariant-loop-product l = record {
  lengths : length l.next.items ≡ l.product;
  room : length l.self.products.now ≤ l.product + l.next.room;
  so_far : l.next.items
      ≡ map (next_price l.self.products.now l.self.increments.now l.self.posted.now) (range_with_len 0 l.product);
  clocks : map (next_clock l.self.products.now l.self.increments.now l.self.posted.now) (range_with_len 0 l.product)
      ≡ map (λ pair. Some pair.clock) l.next.items;
  rising : All IsRising l.next.items;
  rest : position_from (λ product. is_none (next_clock l.self.products.now l.self.increments.now l.self.posted.now
      product)) l.product (range_with_len l.product (length l.self.products.now - l.product))
      ≡ first_at_limit l.self.products.now l.self.increments.now l.self.posted.now;
}
