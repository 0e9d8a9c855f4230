use Rattle.std.proofs.Common.{◌≡◌, ◌++◌, drop}
use Rattle.clock_views.specs.Values.{whole}
use Rattle.clock_scripts.specs.inside.Arrays.{with_commas}
use Rattle.clock_scripts.proofs.bodies.push_numbers.Given as goal

-- with the other items they are all there
abbrev pub invariant-loop-number : goal.invariant-loop-number
invariant-loop-number l = l.text.items ++ with_commas whole (drop l.number-index l.numbers)
    ≡ l.initial.text.items ++ with_commas whole l.numbers
