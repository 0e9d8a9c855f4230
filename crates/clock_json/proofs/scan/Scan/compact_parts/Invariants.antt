use Rattle.std.proofs.Common.{◌≡◌, ◌++◌, ◌-◌, true, List, length, drop, map}
use Rattle.json.specs.Lex.{may_begin}
use Rattle.clock_json.specs.Left.{left, place_of}
use Rattle.clock_json.specs.Reading.{ReadsAll}
use Rattle.clock_json.proofs.scan.Scan.compact_parts.Given as goal

-- the parts so far, after which a value may begin; the fields are written at the end
abbrev pub invariant-parts : goal.invariant-parts
invariant-parts g l =
    (l.self-inside ≡ l.initial.self-inside) × (row : List g.row.R-Part.Denot) × (l.all.items ≡ l.fn.list.items ++ row)
    × ReadsAll 1 l.fn.self (map g.R.CompactPart.shown row) (left l.expected (drop l.at l.bytes))
    × (may_begin (place_of l.expected) ≡ true)

abbrev pub decreases-parts : goal.decreases-parts
decreases-parts g l = length l.bytes - l.at
