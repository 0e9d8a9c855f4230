-- Proves what an event led to, from the function for its kind.
use Rattle.std.proofs.Common.{List, ℕ, None, sym, subst}
use Rattle.std.specs.Prelude.{IfOk}
use Rattle.clock_connections.specs.declared.connections.Event.{Event}
use Rattle.clock_connections.specs.declared.connections.Event.TheVariants.{Piece}
use Rattle.clock_connections.specs.Pieces.{after, completed}
use Rattle.clock_front.specs.inside.NumberedHubs.{HasTaken}
use Rattle.clock_front.proofs.runs.NumberedHub.take_event.Goals as goal

pub returns-in_ok-take_connect-in-Connect : goal.returns-in_ok-take_connect-in-Connect
returns-in_ok-take_connect-in-Connect g c = λ numbered stands.
    let new = c.take_connect.new.self in
    subst (λ (event : Event). HasTaken (after numbered event) (completed numbered event) c.args.self.now.hub new.hub
    new.conns None) (sym c.in-Connect.is) (c.in_ok-take_connect-in-Connect.ensures numbered stands)

pub returns-in-Piece : goal.returns-in-Piece
returns-in-Piece g c = λ numbered stands.
    let old = c.args.self.now.hub in
    let new = c.take_piece.new.self in
    let reported = c.take_piece.result in
    subst (λ (event : Event). IfOk reported (HasTaken (after numbered event) (completed numbered event) old new.hub
    new.conns)) (sym c.in-Piece.is) (subst (λ (bytes : List ℕ). IfOk reported (HasTaken (after numbered
    (Piece c.in-Piece.number bytes)) (completed numbered (Piece c.in-Piece.number bytes)) old new.hub new.conns))
    c.as_slice.ensures (c.take_piece.ensures numbered stands))

pub returns-in-Finish : goal.returns-in-Finish
returns-in-Finish g c = λ numbered stands.
    let new = c.take_finish.new.self in
    subst (λ (event : Event). HasTaken (after numbered event) (completed numbered event) c.args.self.now.hub new.hub
    new.conns c.take_finish.result) (sym c.in-Finish.is) (c.take_finish.ensures numbered stands)
