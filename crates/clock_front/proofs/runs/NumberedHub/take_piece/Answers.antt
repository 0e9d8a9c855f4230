-- Proves what a piece led to, by what the hub returned for it.
use Rattle.std.proofs.Common.{◌≡◌, None, refl, sym, subst, rules}
use Rattle.clock_connections.specs.Connections.{open_text}
use Rattle.clock_connections.specs.inside.Numbers.{conn_at}
use Rattle.clock_front.specs.Hubs.{IsFedBy, IsFeedFault}
use Rattle.clock_front.proofs.NumberedLaws.{idle_piece, never_opened, piece_answered, piece_taken, text_is}
use Rattle.clock_front.proofs.runs.NumberedHub.take_piece.Goals as goal

pub returns-in_default : goal.returns-in_default
returns-in_default g c = λ numbered stands.
    let old = c.args.self.now in
    let at : conn_at old.conns c.args.number ≡ None = search rules in
    idle_piece numbered old.hub old.hub old.conns c.args.number stands c.args.piece.now
    (never_opened numbered old.hub old.hub old.conns c.args.number stands at) refl

pub returns-in-Ok-More : goal.returns-in-Ok-More
returns-in-Ok-More g c = λ numbered stands.
    let old = c.args.self.now in
    let conn = c.in-Some.conn in
    piece_taken numbered old.hub c.feed.new.self old.conns c.args.number stands conn (sym c.in-Some.ensures)
    c.args.piece.now c.in-Ok-More.ensures.stood (subst (IsFedBy old.hub c.feed.new.self conn c.args.piece.now)
    c.in-Ok-More.field-0-is c.in-Ok-More.ensures.fed)

pub returns-in-Ok-Reply : goal.returns-in-Ok-Reply
returns-in-Ok-Reply g c = λ numbered stands.
    let old = c.args.self.now in
    let conn = c.in-Some.conn in
    piece_answered numbered old.hub c.feed.new.self old.conns c.args.number stands conn (sym c.in-Some.ensures)
    c.args.piece.now c.in-Ok-Reply.reply c.in-Ok-Reply.ensures.stood (subst (IsFedBy old.hub c.feed.new.self conn
    c.args.piece.now) c.in-Ok-Reply.field-0-is c.in-Ok-Reply.ensures.fed)

pub returns-in-Err-Unknown : goal.returns-in-Err-Unknown
returns-in-Err-Unknown g c = λ numbered stands.
    let old = c.args.self.now in
    let conn = c.in-Some.conn in
    let unknown = subst (IsFeedFault (open_text old.hub.connections conn)) c.in-Err-Unknown.field-0-is
    c.in-Err-Unknown.ensures.fault in
    idle_piece numbered old.hub c.feed.new.self old.conns c.args.number stands c.args.piece.now
    (text_is numbered old.hub c.feed.new.self old.conns c.args.number stands conn (sym c.in-Some.ensures) None unknown)
    c.in-Err-Unknown.ensures.still

pub returns-in-Err : goal.returns-in-Err
returns-in-Err g c = λ numbered stands. tt
