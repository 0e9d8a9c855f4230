use Rattle.std.proofs.Common.{[]}
use Rattle.clock_journal.proofs.Sourced.{not_read_given}
use Rattle.clock_journal.proofs.Taking.{if_err, if_ok}
use Rattle.clock_journal.proofs.reading.recover_first.Goals as goal

pub returns-clause-ok : goal.returns-clause-ok
returns-clause-ok g c = if_ok c.recover_from.result _ _
    (λ recovered ok. let given = ok.4 c.requires in (ok.0, ok.1, ok.2, ok.3, given.0, given.1))
    c.recover_from.ensures.ok

pub returns-clause-err : goal.returns-clause-err
returns-clause-err g c = if_err c.recover_from.result _ _
    (λ why found. (
      found.0,
      found.1,
      not_read_given (g.M.Machine.stands_for c.args.machine.now c.args.digest.now [])
          (g.M.Machine.refuses (g.M.Machine.rules c.args.machine.now)) c.args.digest.now found.0
          (g.S.Source.report c.args.source.now) (g.S.Source.report c.recover_from.new.source) why found.2 c.requires,
    )) c.recover_from.ensures.err
