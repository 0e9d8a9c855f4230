use Rattle.std.proofs.Common.{◌≡◌, ◌≤◌, ◌+◌, ◌-◌, ◌*◌, ◌++◌, drop, false, length, nat_lt}
use Rattle.std.specs.List.{AllWithin}
use Rattle.clock_views.specs.Values.{whole}
use Rattle.clock_views.specs.inside.Values.{rest_text}
use Rattle.clock_views.specs.inside.Rooms.{room_of_item}
use Rattle.clock_views.proofs.pieces.push_demands.Given as goal

-- with the other demands it is the whole array
abbrev pub invariant-held : goal.invariant-held
invariant-held l = record {
  row : l.held.demands ≡ l.initial.held.demands;
  order : l.from ≤ l.held.from;
  within : l.from ≤ length l.initial.held.demands;
  passed : AllWithin (λ demand. demand ≡ 0) l.initial.held.demands l.from l.held.from;
  adds : l.text.items ++ rest_text whole (nat_lt 0 l.from) (drop l.from l.initial.held.demands)
      ≡ l.initial.text.items ++ rest_text whole false l.initial.held.demands;
  room : l.initial.text.room ≤ l.text.room + room_of_item * l.from;
}

abbrev pub decreases-held : goal.decreases-held
decreases-held l = length l.initial.held.demands - l.held.from
