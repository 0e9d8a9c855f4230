use Rattle.std.proofs.Common.{◌≡◌, ◌++◌, drop}
use Rattle.clock_scripts.specs.RequestTexts.{tie_value}
use Rattle.clock_scripts.specs.inside.Arrays.{with_commas}
use Rattle.clock_scripts.proofs.bodies.push_ties.Given as goal

-- with the other items they are all there
abbrev pub invariant-loop-tie : goal.invariant-loop-tie
invariant-loop-tie l = l.text.items ++ with_commas tie_value (drop l.tie-index l.ties)
    ≡ l.initial.text.items ++ with_commas tie_value l.ties
