use Rattle.std.proofs.Common.{◌-◌, ◌≤◌, [], length, drop, replicate}
use Rattle.clock_json.specs.Left.{left}
use Rattle.clock_json.specs.Reading.{numbers, ReadsAll}
use Rattle.clock_json.specs.declared.scan.Expected.TheVariants.{AfterComma}
use Rattle.clock_json.proofs.scan.Scan.empty_arrays.Given as goal

-- the lists so far
abbrev pub invariant-lists : goal.invariant-lists
invariant-lists l =
    ReadsAll 1 l.fn.self (replicate l.count (numbers [])) (left AfterComma (drop l.at l.bytes)) × (l.count ≤ l.at)

abbrev pub decreases-lists : goal.decreases-lists
decreases-lists l = length l.bytes - l.at
