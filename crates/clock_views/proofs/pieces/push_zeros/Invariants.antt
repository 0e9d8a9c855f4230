use Rattle.std.proofs.Common.{◌≡◌, ◌≤◌, ◌+◌, ◌-◌, ◌*◌, ◌++◌, ℕ, List, drop, length, nat_lt}
use Rattle.std.specs.List.{AllWithin}
use Rattle.clock_views.specs.Values.{whole}
use Rattle.clock_views.specs.inside.Values.{rest_text}
use Rattle.clock_views.specs.inside.Rooms.{room_of_item}
use Rattle.clock_views.proofs.pieces.push_zeros.Given as goal

-- with the other demands the zeros so far are the rest from the first of them on
abbrev pub invariant-loop-product : goal.invariant-loop-product
invariant-loop-product l = record {
  adds : (row : List ℕ) → l.until ≤ length row → AllWithin (λ demand. demand ≡ 0) row l.from l.until
      → l.text.items ++ rest_text whole (nat_lt 0 l.product) (drop l.product row)
      ≡ l.initial.text.items ++ rest_text whole (nat_lt 0 l.from) (drop l.from row);
  room : l.initial.text.room ≤ l.text.room + room_of_item * (l.product - l.from);
}
