use Rattle.std.proofs.Common.{◌≡◌, ◌++◌, ◌-◌, ℕ, List, length, drop, map}
use Rattle.clock_json.specs.Left.{left}
use Rattle.clock_json.specs.Reading.{whole_number, ReadsAll}
use Rattle.clock_json.specs.declared.scan.Expected.TheVariants.{AfterComma}
use Rattle.clock_json.proofs.scan.Scan.further_numbers.Given as goal

-- the numbers so far
abbrev pub invariant-numbers : goal.invariant-numbers
invariant-numbers l =
    (row : List ℕ) × (l.list.items ≡ l.initial.list.items ++ row)
    × ReadsAll 0 l.fn.self (map whole_number row) (left AfterComma (drop l.at l.bytes))

abbrev pub decreases-numbers : goal.decreases-numbers
decreases-numbers l = length l.bytes - l.at
