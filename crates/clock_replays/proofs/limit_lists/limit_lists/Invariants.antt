use Rattle.std.proofs.Common.{length, map, ◌≤◌}
use Rattle.clock_json.specs.Reading.{numbers}
use Rattle.clock_json.specs.inside.Reading.{HasItems}
use Rattle.clock_replays.specs.inside.PackedLimits.{ArePacked, packed_limits}
use Rattle.clock_replays.proofs.limit_lists.limit_lists.Given as goal

-- the limits so far were read
abbrev pub invariant-items : goal.invariant-items
invariant-items l = record {
  read : HasItems 1 l.initial.scan (map numbers (packed_limits l.limits)) l.scan;
  packed : ArePacked l.limits;
  shorter : length l.scan ≤ length l.initial.scan;
}

abbrev pub decreases-items : goal.decreases-items
decreases-items l = length l.scan
