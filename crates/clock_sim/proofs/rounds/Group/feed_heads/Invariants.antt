use Rattle.std.proofs.Common.{◌≡◌}
use Rattle.clock_sim.specs.inside.Groups.{HaveTextsFrom, requests_in}
use Rattle.clock_sim.proofs.GroupLaws.{heads_to}
use Rattle.clock_sim.proofs.rounds.Group.feed_heads.Given as goal

-- the heads so far were sent, and nothing was answered
abbrev pub invariant-loop-one : goal.invariant-loop-one
invariant-loop-one g l =
    (l.hub.house ≡ l.initial.hub.house) × HaveTextsFrom 0 l.hub.connections (requests_in l.self) (heads_to l.one-index)
