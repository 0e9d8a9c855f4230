-- Proves that a request whose input ends was answered, and was cut short, since every open connection needs more.
use Rattle.std.proofs.Common.{◌≡◌, Some, IsSome, sym, subst, rules}
use Rattle.clock_connections.specs.Connections.{open_text}
use Rattle.clock_connections.proofs.WaitingLaws.{keeps_waiting, waits_no_more}
use Rattle.clock_front.specs.Hubs.{HubFields, IsAnswered}
use Rattle.clock_front.specs.inside.Hubs.{hub_of}
use Rattle.clock_front.proofs.ConnectionLaws.{some_text}
use Rattle.clock_front.proofs.hub.Hub.finish.Goals as goal

pub returns-clause-cut_short : goal.returns-clause-cut_short
returns-clause-cut_short g c =
    let stood : IsSome (open_text c.self.inside.connections c.args.conn) = search rules in
    let has = some_text (open_text c.self.inside.connections c.args.conn) stood in
    c.complete.ensures.cut_short has.0 has.1 (c.self.invariant c.args.conn has.0 has.1)

pub returns-clause-answered : goal.returns-clause-answered
returns-clause-answered g c = λ text is.
    let there = subst (λ (h : HubFields). open_text h.connections c.args.conn ≡ Some text) (sym c.self.view_is) is in
    let new = hub_of c.complete.new.front c.complete.new.connections in
    subst (λ (h : HubFields). IsAnswered h new c.args.conn text c.complete.result) c.self.view_is
    (c.complete.ensures.answered text there)

pub invariant_of-self : goal.invariant_of-self
invariant_of-self g c =
    let stood : IsSome (open_text c.self.inside.connections c.args.conn) = search rules in
    let has = some_text (open_text c.self.inside.connections c.args.conn) stood in
    let gone = (c.complete.ensures.answered has.0 has.1).gone in
    keeps_waiting c.self.inside.connections c.complete.new.connections c.args.conn c.self.invariant gone.others
    (waits_no_more c.complete.new.connections c.args.conn gone.gone)
