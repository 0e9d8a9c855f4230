use Rattle.std.specs.Prelude.{◌<◌, ◌≤◌, ◌-◌, length}
use Rattle.std.specs.List.{AllWithin}
use Rattle.clock_replays.proofs.limit_lists.LimitRows.place_of.Given as goal

-- all products before this index are lower
abbrev pub invariant-lesser : goal.invariant-lesser
invariant-lesser l = (l.place ≤ length l.products) × AllWithin (λ other. other < l.product) l.products 0 l.place

abbrev pub decreases-lesser : goal.decreases-lesser
decreases-lesser l = length l.products - l.place
