use Rattle.std.proofs.Common.{drop}
use Rattle.clock_sim.specs.inside.Groups.{IsGroupUnderWay, requests_in}
use Rattle.clock_sim.specs.Rehearsal.{after_puts}
use Rattle.clock_sim.proofs.StepLaws.{IsOnWay}
use Rattle.clock_sim.proofs.TurnLaws.{then_puts}
use Rattle.clock_sim.proofs.rounds.put_all.Given as goal

-- the waiting requests are to be sent, and the bidders that are left to submit their sheets; the auction has not ended
abbrev pub invariant-loop-bidder : goal.invariant-loop-bidder
invariant-loop-bidder g l =
    IsOnWay (after_puts l.initial.hub.house.setup 0 l.scripts)
    (then_puts l.initial.hub.house.setup (requests_in l.group) l.bidder (drop l.bidder l.scripts))
    l.initial.hub.house l.hub.house × IsGroupUnderWay l.hub l.group
