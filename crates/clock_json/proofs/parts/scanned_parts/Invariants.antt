use Rattle.std.proofs.Common.{length, map, ◌≤◌}
use Rattle.clock_json.specs.inside.Reading.{HasItems}
use Rattle.clock_json.proofs.parts.scanned_parts.Given as goal

abbrev pub invariant-items : goal.invariant-items
invariant-items g l = HasItems g.R.PartReader.levels l.initial.scan (map g.R.PartReader.shown l.parts) l.scan
    × (length l.scan ≤ length l.initial.scan)

abbrev pub decreases-items : goal.decreases-items
decreases-items g l = length l.scan
