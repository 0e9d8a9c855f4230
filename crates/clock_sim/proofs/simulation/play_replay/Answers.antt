-- A replay has a script for each bidder.
use Rattle.std.proofs.Common.{ap, subst, sym, ◌∙◌}
use Rattle.clock_terms.specs.Limits.{SetupFields}
use Rattle.clock_front.specs.Hubs.{HubFields}
use Rattle.clock_sim.specs.inside.Steps.{AreScriptsOf}
use Rattle.clock_sim.proofs.simulation.play_replay.Goals as goal

pub play_and_free-requires-clause-scripts : goal.play_and_free-requires-clause-scripts
play_and_free-requires-clause-scripts c =
    subst (λ (setup : SetupFields). AreScriptsOf setup c.replay.inside.scripts)
    (sym (ap (λ (hub : HubFields). hub.house.setup) c.new-hub.ensures ∙ c.in_ok-new.ensures.setup))
    (record { each = c.replay.invariant.each; all = c.replay.invariant.scripts })
