use Rattle.std.proofs.Common.{[], reverse}
use Rattle.std.proofs.lemmas.Result.{err_from_is_err_and}
use Rattle.clock_journal.specs.declared.recovery.JournalFault.TheVariants.{NoMemory}
use Rattle.clock_journal.proofs.Sourced.{not_read_given}
use Rattle.clock_server.specs.Keeping.{IsRefused}
use Rattle.clock_files.specs.Audits.{IsRecounted}
use Rattle.clock_files.proofs.AuditLaws.{audit_is}
use Rattle.clock_files.proofs.audit.audit_of.Goals as goal

pub returns-in_err-recovered-clause-err : goal.returns-in_err-recovered-clause-err
returns-in_err-recovered-clause-err g c =
    let p = err_from_is_err_and c.from_residual.result c.from_residual.ensures.1 in
    let refused = c.in_err-recovered in
    let found = refused.ensures.err in
    let was = c.args.recount.now in
    rw p.1 (
      found.0,
      found.1,
      record {
        fault = refused.field-0.0;
        reported_is = p.2;
        is = not_read_given (IsRecounted c.args.first.now [] was.front was.digests.items)
            (IsRefused was.front.setup) c.args.first.now found.0 (g.S.Source.report c.args.source.now)
            (g.S.Source.report c.recover_from.new.source) refused.field-0.0 found.2 c.requires;
      },
    )

pub rounds_of-requires : goal.rounds_of-requires
rounds_of-requires g c =
    let all = c.in_ok-recovered.ensures.ok in
    (c.args.first.now, reverse all.1, (all.4 c.requires).0)

pub returns-in_err-text-clause-err : goal.returns-in_err-text-clause-err
returns-in_err-text-clause-err g c =
    let p = err_from_is_err_and c.from_residual-in_err-text.result c.from_residual-in_err-text.ensures.1 in
    let all = c.in_ok-recovered.ensures.ok in
    rw p.1 (
      all.0,
      all.2,
      record {
        fault = NoMemory;
        reported_is = p.2;
        is = tt;
      },
    )

pub returns-clause-ok : goal.returns-clause-ok
returns-clause-ok g c =
    let all = c.in_ok-recovered.ensures.ok in (
      all.0,
      all.2,
      audit_is c.args.recount.now.front.setup c.recover_from.new.machine.front.setup c.args.first.now
          all.0 _ all.1 c.in_ok-recovered.recovered c.recover_from.ensures.rules all.3
          (all.4 c.requires).1 (c.in_ok-text.ensures c.args.first.now (reverse all.1) (all.4 c.requires).0),
    )
