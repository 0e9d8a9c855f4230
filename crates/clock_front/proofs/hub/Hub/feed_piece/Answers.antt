-- Proves what a piece led to that completes a request: it is answered as if the piece had been appended.
use Rattle.std.proofs.Common.{◌++◌, IsSome, rules}
use Rattle.clock_connections.specs.Connections.{open_text}
use Rattle.clock_connections.proofs.WaitingLaws.{keeps_waiting, waits_no_more}
use Rattle.clock_front.proofs.ConnectionLaws.{some_text}
use Rattle.clock_front.proofs.hub.Hub.feed_piece.Goals as goal

pub answer_framed-reply-requires : goal.answer_framed-reply-requires
answer_framed-reply-requires g c =
    let old = c.self.inside.connections in
    let stood : IsSome (open_text old c.args.conn) = search rules in
    let has = some_text (open_text old c.args.conn) stood in
    (has.0 ++ c.args.piece.now, c.in-Some.ensures.is has.0 has.1)

pub invariant_of-self : goal.invariant_of-self
invariant_of-self g c =
    let gone = c.remove-answered.ensures.gone in
    keeps_waiting c.self.inside.connections c.remove-answered.new.self c.args.conn c.self.invariant gone.others
    (waits_no_more c.remove-answered.new.self c.args.conn gone.gone)

pub returns-in-Some-clause-fed : goal.returns-in-Some-clause-fed
returns-in-Some-clause-fed g c = rw (← c.self.view_is) (λ text is.
    let joined = text ++ c.args.piece.now in
    let framed = c.in-Some.ensures.is text is in (
      c.in-Some.ensures.whole text is,
      record {
        gone = search rules;
        answered = c.answer_framed-reply.ensures.answered joined framed;
        setup = c.answer_framed-reply.ensures.setup;
      },
    ))
