-- Proves what the end of a request led to, by what the hub returned for it.
use Rattle.std.proofs.Common.{◌≡◌, None, refl, sym, rules}
use Rattle.clock_connections.specs.Connections.{open_text}
use Rattle.clock_connections.specs.inside.Numbers.{conn_at}
use Rattle.clock_front.proofs.NumberedLaws.{end_answered, idle_end, never_opened, not_open, text_is}
use Rattle.clock_front.proofs.runs.NumberedHub.take_finish.Goals as goal

pub returns-in_default : goal.returns-in_default
returns-in_default g c = λ numbered stands.
    let old = c.args.self.now in
    let at : conn_at old.conns c.args.number ≡ None = search rules in
    idle_end numbered old.hub old.hub old.conns c.args.number stands
    (never_opened numbered old.hub old.hub old.conns c.args.number stands at) refl

pub returns-in-Ok : goal.returns-in-Ok
returns-in-Ok g c = λ numbered stands.
    let old = c.args.self.now in
    end_answered numbered old.hub c.finish.new.self old.conns c.args.number stands c.in-Some.conn
    (sym c.in-Some.ensures) c.in-Ok.reply c.in-Ok.ensures.stood c.in-Ok.ensures.answered

pub returns-in-Err : goal.returns-in-Err
returns-in-Err g c = λ numbered stands.
    let old = c.args.self.now in
    let conn = c.in-Some.conn in
    idle_end numbered old.hub c.finish.new.self old.conns c.args.number stands
    (text_is numbered old.hub c.finish.new.self old.conns c.args.number stands conn (sym c.in-Some.ensures) None
    (not_open c.in-Err.field-0 (open_text old.hub.connections conn) c.in-Err.ensures.fault)) c.in-Err.ensures.still
