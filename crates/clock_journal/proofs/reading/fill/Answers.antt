use Rattle.std.proofs.Common.{length, ◌-◌}
use Rattle.std.proofs.lemmas.Result.{err_from_is_err_and}
use Rattle.clock_journal.proofs.Pieces.{broken_since, counts_since, filled_read, filled_within}
use Rattle.clock_journal.proofs.reading.fill.Goals as goal

pub loop-done-preserved : goal.loop-done-preserved
loop-done-preserved g c =
    let loop = c.loop-done in
    let part = c.read_some.new.buffer in
    let left = length loop.buffer - loop.done in
    let fits = c.in_ok-count.ensures.within.0 in
    record {
      within = filled_within loop.done loop.buffer part left loop.invariant.within c.in_ok-count.count fits;
      read = filled_read loop.done loop.buffer part left loop.invariant.within _ _ _ c.in_ok-count.count fits
          loop.invariant.read c.in_ok-count.ensures.bytes.0;
      counted = counts_since (g.S.Source.report c.args.source.now) (g.S.Source.report loop.source)
          (g.S.Source.report c.read_some.new.source) loop.invariant.counted c.read_some.ensures.counted;
    }

pub returns-in_err-count-clause-failed : goal.returns-in_err-count-clause-failed
returns-in_err-count-clause-failed g c =
    let p = err_from_is_err_and c.from_residual.result c.from_residual.ensures.1 in
    rw (p.1) (broken_since (g.S.Source.report c.args.source.now) (g.S.Source.report c.loop-done.source)
    (g.S.Source.report c.read_some.new.source) c.loop-done.invariant.counted c.in_err-count.ensures.failed)
