use Rattle.std.proofs.Common.{length, map, ◌≤◌}
use Rattle.clock_json.specs.Reading.{numbers}
use Rattle.clock_json.specs.inside.Reading.{HasItems}
use Rattle.clock_setup.proofs.opening_scan.demand_rows.Given as goal

abbrev pub invariant-items : goal.invariant-items
invariant-items l = HasItems 1 l.initial.scan (map numbers l.list.items) l.scan
    × (length l.scan ≤ length l.initial.scan)

abbrev pub decreases-items : goal.decreases-items
decreases-items l = length l.scan
