-- Proves what a piece led to, from its two steps: it is appended, and then the request is answered if it is complete.
use Rattle.std.proofs.Common.{◌≡◌, ◌++◌, Some, IsSome, is_some, refl, sym, ◌∙◌, ap, subst, rules}
use Rattle.clock_connections.specs.Connections.{open_text}
use Rattle.clock_connections.proofs.WaitingLaws.{keeps_waiting, waits_no_more}
use Rattle.clock_front.specs.declared.hub.Fed.TheVariants.{More, Reply}
use Rattle.clock_front.specs.Hubs.{HubFields, IsFed}
use Rattle.clock_front.specs.inside.Hubs.{hub_of}
use Rattle.clock_front.proofs.ConnectionLaws.{some_text, fed_and_answered, fed_keeps}
use Rattle.clock_front.proofs.hub.Hub.feed_on.Goals as goal

pub complete-requires : goal.complete-requires
complete-requires g c =
    let stood : IsSome (open_text c.self.inside.connections c.args.conn) = search rules in
    let has = some_text (open_text c.self.inside.connections c.args.conn) stood in
    ap is_some (c.in_ok-take.ensures.taken has.0 has.1).stands

pub returns-clause-fed : goal.returns-clause-fed
returns-clause-fed g c = λ text is.
    let old = c.self.inside.connections in
    let joined = text ++ c.args.piece.now in
    let there = subst (λ (h : HubFields). open_text h.connections c.args.conn ≡ Some text) (sym c.self.view_is) is in
    let taken = c.in_ok-take.ensures.taken text there in
    let new = hub_of c.complete.new.front c.complete.new.connections in
    subst (λ (h : HubFields). IsFed h new c.args.conn joined (Reply c.complete.result)) c.self.view_is (
      sym (c.in_ok-take.ensures.short text there) ∙ c.if-branch.false,
      fed_and_answered c.self.inside.front old c.take.new.self new c.args.conn joined c.complete.result taken
          (c.complete.ensures.answered joined taken.stands),
    )

-- All open connections still need more, whether the request waits or was answered.
pub invariant_of-self-then-branch : goal.invariant_of-self-then-branch
invariant_of-self-then-branch g c =
    let old = c.self.inside.connections in
    let stood : IsSome (open_text old c.args.conn) = search rules in
    let has = some_text (open_text old c.args.conn) stood in
    fed_keeps (hub_of c.self.inside.front old) (hub_of c.self.inside.front c.take.new.self) c.args.conn
    (has.0 ++ c.args.piece.now) More c.self.invariant
    (sym (c.in_ok-take.ensures.short has.0 has.1) ∙ c.if-branch.true, c.in_ok-take.ensures.taken has.0 has.1, refl)

pub invariant_of-self-2 : goal.invariant_of-self-2
invariant_of-self-2 g c =
    let old = c.self.inside.connections in
    let stood : IsSome (open_text old c.args.conn) = search rules in
    let has = some_text (open_text old c.args.conn) stood in
    let taken = c.in_ok-take.ensures.taken has.0 has.1 in
    let gone = (c.complete.ensures.answered (has.0 ++ c.args.piece.now) taken.stands).gone in
    keeps_waiting old c.complete.new.connections c.args.conn c.self.invariant (λ other differs. gone.others other
    differs ∙ taken.others other differs) (waits_no_more c.complete.new.connections c.args.conn gone.gone)
