use Rattle.std.proofs.Common.{rules}
use Rattle.clock_files.proofs.ListingLaws.{list_more}
use Rattle.clock_files.proofs.journal_text.ListingMachine.take.Goals as goal

pub returns-in-Ok-clause-taken : goal.returns-in-Ok-clause-taken
returns-in-Ok-clause-taken g c = λ first past is same.
    list_more first past c.args.text.now c.args.at.now (g.W.Sink.report c.args.self.now.out).taken
    (g.W.Sink.report c.write_full.new.out).taken c.args.self.now.lines c.push_text.new.shown c.write_full.new.lines
    c.args.self.now.most c.args.self.now.count c.args.self.now.chain is same (search rules) (search rules)
    c.in-Ok.ensures
