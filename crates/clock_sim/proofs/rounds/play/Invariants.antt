use Rattle.std.proofs.Common.{drop}
use Rattle.clock_sim.specs.Rehearsal.{rehearsed}
use Rattle.clock_sim.specs.inside.Steps.{IsGoing}
use Rattle.clock_sim.proofs.StepLaws.{IsOnWay}
use Rattle.clock_sim.proofs.rounds.play.Given as goal

-- the closings that are left are to be made, and the auction has not ended
abbrev pub invariant-loop-closing : goal.invariant-loop-closing
invariant-loop-closing g l = IsOnWay (rehearsed l.initial.hub.house.setup l.scripts l.closings)
    (rehearsed l.initial.hub.house.setup l.scripts (drop l.closing-index l.closings)) l.initial.hub.house l.hub.house
    × IsGoing l.hub.house
