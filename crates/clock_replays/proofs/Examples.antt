-- Examples of the checks of replay documents.
use Rattle.std.specs.Prelude.{◌≡◌, List, [], ◌∷◌, Some, None, refl}
use Rattle.clock_terms.specs.declared.increments.Increments.TheVariants.{PerProduct}
use Rattle.clock_terms.proofs.Examples.{one_product}
use Rattle.clock_terms.specs.Faults.{first_fault}
use Rattle.clock_replays.specs.declared.replay.Script.{Script}
use Rattle.clock_replays.specs.declared.replay.Script.TheVariants.{Literal, Sincere}
use Rattle.clock_replays.specs.declared.replay.ScriptFault.TheVariants.{Shape, Scripts, Limits}
use Rattle.clock_replays.specs.Replays.{ReplayFields}
use Rattle.clock_replays.specs.ReplayChecks.{replay_checks, limit_checks, script_checks}

abbrev silent : Script
silent = Literal []

-- a replay of the one product without closings
abbrev replay : List Script → ReplayFields
replay scripts = record { setup = one_product; scripts = scripts; closings = [] }

limits_may_not_rise : first_fault
    (replay_checks (replay (Sincere ((115 ∷ 120 ∷ []) ∷ []) ∷ silent ∷ []))) ≡ Some (Limits 0 0)
unfolding replay_checks script_checks limit_checks
limits_may_not_rise = refl

limits_are_at_most_the_cap : first_fault
    (replay_checks (replay (silent ∷ Sincere ((9 ∷ 9 ∷ 9 ∷ []) ∷ []) ∷ []))) ≡ Some (Limits 1 0)
unfolding replay_checks script_checks limit_checks
limits_are_at_most_the_cap = refl

equal_limits_are_good : first_fault (replay_checks (replay (silent ∷ Sincere ((9 ∷ 9 ∷ []) ∷ []) ∷ []))) ≡ None
unfolding replay_checks script_checks limit_checks
equal_limits_are_good = refl

scripts_are_counted_before_limits : first_fault
    (replay_checks (replay (Sincere ((115 ∷ 120 ∷ []) ∷ []) ∷ []))) ≡ Some Scripts
unfolding replay_checks script_checks limit_checks
scripts_are_counted_before_limits = refl

closings_come_before_scripts : first_fault (replay_checks (record (replay (silent
    ∷ [])) { closings = record { increments = PerProduct (10 ∷ []); ties = [] } ∷ [] })) ≡ Some Shape
unfolding replay_checks script_checks limit_checks
closings_come_before_scripts = refl
