use Rattle.std.proofs.Common.{length, map, ◌≤◌}
use Rattle.clock_json.specs.Reading.{numbers}
use Rattle.clock_json.specs.inside.Reading.{HasItems}
use Rattle.clock_json.proofs.scan.Scan.short_rows.Given as goal

abbrev pub invariant-items : goal.invariant-items
invariant-items l = HasItems 1 l.initial.self (map numbers l.rows) l.self × (length l.self ≤ length l.initial.self)

abbrev pub decreases-items : goal.decreases-items
decreases-items l = length l.self
