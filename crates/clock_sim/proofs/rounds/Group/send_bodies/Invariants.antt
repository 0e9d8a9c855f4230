use Rattle.std.proofs.Common.{drop}
use Rattle.clock_sim.specs.inside.Groups.{HaveTextsFrom, after_group, requests_in}
use Rattle.clock_sim.proofs.StepLaws.{IsOnWay}
use Rattle.clock_sim.proofs.rounds.Group.send_bodies.Given as goal

-- the requests that are left are to be answered, and their heads were sent
abbrev pub invariant-loop-one : goal.invariant-loop-one
invariant-loop-one g l = IsOnWay (after_group l.initial.hub.house.setup (requests_in l.self))
    (after_group l.initial.hub.house.setup (drop l.one-index (requests_in l.self))) l.initial.hub.house l.hub.house
    × HaveTextsFrom l.one-index l.hub.connections (requests_in l.self) (λ k one. one.head)
