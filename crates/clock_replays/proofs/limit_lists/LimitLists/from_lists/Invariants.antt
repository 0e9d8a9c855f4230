use Rattle.std.proofs.Common.{◌≡◌, take}
use Rattle.clock_replays.specs.inside.PackedLimits.{ArePacked, packed_limits}
use Rattle.clock_replays.proofs.limit_lists.LimitLists.from_lists.Given as goal

-- the lists so far are packed
abbrev pub invariant-loop-list : goal.invariant-loop-list
invariant-loop-list l = record {
  limits : packed_limits l.rows ≡ take l.list-index l.lists;
  packed : ArePacked l.rows;
}
