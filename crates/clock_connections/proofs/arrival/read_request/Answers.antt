-- Proves that no memory for the buffer is no memory before any read, and passes on how reading ended.
use Rattle.std.proofs.lemmas.Result.{err_from_is_err_and}
use Rattle.clock_connections.proofs.ArrivalLaws.{no_room_at_first}
use Rattle.clock_connections.proofs.arrival.read_request.Goals as goal

pub returns-in_err-piece-clause-arrival : goal.returns-in_err-piece-clause-arrival
returns-in_err-piece-clause-arrival g c =
    let p = err_from_is_err_and c.from_residual.result c.from_residual.ensures.1 in
    rw (p.1, p.2) (no_room_at_first (g.R.Source.report c.args.source.now) c.requires)

pub returns-in-Err-clause-arrival : goal.returns-in-Err-clause-arrival
returns-in-Err-clause-arrival g c = c.in-Err.ensures.unread
