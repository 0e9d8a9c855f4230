use Rattle.std.proofs.Common.{reverse, rules, subst}
use Rattle.clock_journal.specs.Logged.{JournalState}
use Rattle.clock_journal.specs.Recovering.{AreTextsOf}
use Rattle.clock_journal.specs.Sources.{IsNotRead}
use Rattle.clock_journal.proofs.Resumed.{not_read, not_started, started}
use Rattle.clock_journal.proofs.journal.NewJournal.resume.Goals as goal

pub returns-in-Err-clause-resumed : goal.returns-in-Err-clause-resumed
returns-in-Err-clause-resumed g c =
    let refuses = g.M.Machine.refuses (g.M.Machine.rules c.args.machine.now) in
    let before = g.S.Source.report c.args.source.now in
    let after = g.S.Source.report c.recover_first.new.source in
    let found = c.in-Err.ensures.err in (
      found.0,
      found.1,
      not_read refuses (g.M.Machine.stands_for c.recover_first.new.machine) found.0 _ _ c.self.view_is before after
          c.in-Err.fault (subst (λ (at : JournalState). IsNotRead refuses at.chain found.0 before after
          c.in-Err.fault) c.journal.view_is found.2),
    )

pub returns-in-Ok-start-clause-resumed : goal.returns-in-Ok-start-clause-resumed
returns-in-Ok-start-clause-resumed g c =
    let found = c.in-Ok.ensures.ok in
    let placed = subst (λ (at : JournalState). AreTextsOf at.chain found.0 found.1 c.in-Ok.recovered)
    c.journal.view_is found.3 in
    let taken = subst (λ (at : JournalState). g.M.Machine.stands_for c.recover_first.new.machine at.chain
    (reverse found.1)) c.journal.view_is found.4 in (
      found.0,
      found.2,
      started (g.M.Machine.refuses (g.M.Machine.rules c.args.machine.now))
          (g.M.Machine.stands_for c.recover_first.new.machine) found.0 _ _ c.self.view_is c.start.new.self
          c.in-Ok.recovered found.1 placed taken (c.start.ensures.leaves found.0 found.1 placed) found.5
          (c.in-Ok-start.ensures.ok found.0 found.1 placed),
    )

pub returns-in-Err-start-clause-resumed : goal.returns-in-Err-start-clause-resumed
returns-in-Err-start-clause-resumed g c =
    let found = c.in-Ok.ensures.ok in
    let placed = subst (λ (at : JournalState). AreTextsOf at.chain found.0 found.1 c.in-Ok.recovered)
    c.journal.view_is found.3 in
    let taken = subst (λ (at : JournalState). g.M.Machine.stands_for c.recover_first.new.machine at.chain
    (reverse found.1)) c.journal.view_is found.4 in (
      found.0,
      found.2,
      not_started (g.M.Machine.refuses (g.M.Machine.rules c.args.machine.now))
          (g.M.Machine.stands_for c.recover_first.new.machine) found.0 _ _ c.self.view_is c.start.new.self
          c.in-Ok.recovered found.1 placed taken (c.start.ensures.leaves found.0 found.1 placed)
          (g.S.Source.report c.args.source.now) (g.S.Source.report c.recover_first.new.source) (search rules),
    )
