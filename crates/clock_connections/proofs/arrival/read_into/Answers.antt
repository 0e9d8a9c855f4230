-- Each turn of the loop makes one read, whose bytes extend those so far. It ends as the first read does that completes
-- the request, fails, or finds no memory.
use Rattle.std.proofs.Common.{List, ℕ, sym, subst, ap, ◌∙◌, arith}
use Rattle.std.proofs.lemmas.Result.{err_from_is_err_and}
use Rattle.clock_device.specs.Streams.{HasRead}
use Rattle.clock_http.specs.Framing.{needs_more}
use Rattle.clock_connections.proofs.ArrivalLaws.{no_room, nothing_needs_more, nothing_read}
use Rattle.clock_connections.proofs.arrival.read_into.Goals as goal

pub loop-read-init : goal.loop-read-init
loop-read-init g c =
    let none = c.requires.empty in
    let left = (g.R.Source.report c.args.source.now).left in
    record {
      room = c.requires.some;
      short = c.requires.short;
      read = subst (λ (bytes : List ℕ). HasRead left left bytes) (sym none) (nothing_read left);
      needed = ap needs_more none ∙ nothing_needs_more;
      counted = c.requires.unread.uncounted;
      used = omega arith;
      interrupted = omega (arith, c.requires.unread.uninterrupted);
      unfailed = c.requires.unread.unfailed;
    }

pub returns-in_err-short-clause-unread : goal.returns-in_err-short-clause-unread
returns-in_err-short-clause-unread g c =
    let p = err_from_is_err_and c.from_residual.result c.from_residual.ensures.1 in
    let report = g.R.Source.report in
    let loop = c.loop-read in
    let once = c.in-Ok.ensures in
    rw (p.1, p.2) (no_room (record { before = report c.args.source.now; after = report c.read.new.self })
    (report loop.source) loop.request loop.invariant.read loop.invariant.needed
    (omega (arith, loop.invariant.counted, loop.invariant.used)) loop.invariant.unfailed
    (omega (arith, once.counted, loop.invariant.counted)) (omega (arith, once.interrupted)) _ once.bytes.0 once.failed)
