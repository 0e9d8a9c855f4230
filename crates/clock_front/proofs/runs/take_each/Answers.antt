-- Proves that the loop gives a run over the requests of the events, by the invariant of EventLaws.
use Rattle.std.proofs.Common.{◌≡◌, List, ◌+◌, refl, sym, ◌∙◌, ap, subst, arith}
use Rattle.clock_terms.specs.Limits.{SetupFields, IsSetup}
use Rattle.clock_house.specs.History.{history}
use Rattle.clock_house.specs.House.{HouseFields}
use Rattle.clock_house.specs.Laws.{IsSound}
use Rattle.clock_front.specs.declared.runs.EventReply.{EventReply}
use Rattle.clock_front.specs.inside.EventRuns.{kept}
use Rattle.clock_front.proofs.EventLaws.{IsOnItsWay, begins, goes_on, ends}
use Rattle.clock_front.proofs.runs.take_each.Goals as goal
use Rattle.clock_front.proofs.runs.take_each.Goals.{in-Some+in_ok-push, in_default}

pub loop-event-init : goal.loop-event-init
loop-event-init g c =
    let hub = c.args.hub.now in
    begins hub.hub.house.setup c.args.events.now c.new-replies.result hub.hub.connections hub.conns hub.hub.house
    c.new-replies.ensures c.requires.none refl c.requires.new

pub loop-event-preserved : goal.loop-event-preserved
loop-event-preserved g c =
    let setup = c.args.hub.now.hub.house.setup in
    let before = c.loop-event.invariant in
    let limits : IsSetup setup = subst IsSetup
    (ap (λ (house : HouseFields). house.setup) (c.house.ensures ∙ c.front.ensures)) c.law_of_house.ensures.limits in
    let hub = c.loop-event.hub in
    let next = c.take_event.new.self in
    let taken = c.in_ok-reply.ensures before.numbered before.stands in
    let way = goes_on setup limits c.args.events.now c.loop-event.event-index c.loop-event.replies hub.hub.connections
    next.hub.connections hub.conns next.conns hub.hub.house next.hub.house c.event-item.result c.in_ok-reply.field-0
    before c.loop-event-test.true c.event-item.is taken.stands taken.reported in
    let replies : c.match-branch-2.replies ≡ kept c.loop-event.replies c.in_ok-reply.field-0 =
    elim c.match-branch-2.branch [
      | in-Some+in_ok-push w ↦
          w.replies-is ∙ w.in_ok-push.ensures.ok ∙ ap (kept c.loop-event.replies) (sym w.in-Some.is)
      | in_default w ↦ w.replies-is ∙ ap (kept c.loop-event.replies) (sym w.in_default.is)
    ] in
    subst (λ (all : List EventReply). IsOnItsWay setup c.args.events.now
    (c.loop-event.event-index + 1) all next.hub.connections next.conns next.hub.house) (sym replies) way

pub returns : goal.returns
returns g c =
    let way = c.loop-event.invariant in
    let hub = c.loop-event.hub in
    let same = ap (λ (house : HouseFields). house.setup) (c.house.ensures ∙ c.front.ensures) in
    ends c.args.hub.now.hub.house.setup c.args.events.now c.loop-event.event-index c.loop-event.replies
    hub.hub.connections hub.conns hub.hub.house way (omega arith) (λ commands. subst
    (λ (setup : SetupFields). IsSound setup (history setup commands)) same (c.law_of_house.ensures.sound commands))
