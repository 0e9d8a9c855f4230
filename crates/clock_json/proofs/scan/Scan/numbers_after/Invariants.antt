use Rattle.std.proofs.Common.{◌≡◌, ◌++◌, ℕ, List, length, map, ◌≤◌}
use Rattle.clock_json.specs.Reading.{whole_number}
use Rattle.clock_json.specs.inside.Reading.{HasItems}
use Rattle.clock_json.proofs.scan.Scan.numbers_after.Given as goal

abbrev pub invariant-items : goal.invariant-items
invariant-items l =
    (row : List ℕ) × (l.list.items ≡ l.initial.list.items ++ row)
    × HasItems 0 l.initial.self (map whole_number row) l.self
    × (length l.self ≤ length l.initial.self)

abbrev pub decreases-items : goal.decreases-items
decreases-items l = length l.self
