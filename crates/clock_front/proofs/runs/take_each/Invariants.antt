use Rattle.clock_front.proofs.EventLaws.{IsOnItsWay}
use Rattle.clock_front.proofs.runs.take_each.Given as goal

-- The requests that the events so far complete are a run.
abbrev pub invariant-loop-event : goal.invariant-loop-event
invariant-loop-event g l = IsOnItsWay l.fn.hub.hub.house.setup l.events l.event-index l.replies l.hub.hub.connections
    l.hub.conns l.hub.hub.house
