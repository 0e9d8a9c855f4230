use Rattle.std.proofs.Common.{reverse, rules}
use Rattle.clock_files.proofs.ListingLaws.{all_printed}
use Rattle.clock_files.proofs.journal_text.Listing.list.Goals as goal

pub returns-in-Ok-clause-ok : goal.returns-in-Ok-clause-ok
returns-in-Ok-clause-ok g c = λ first.
    let found = c.in_default.ensures.ok in
    let now = c.recover_from.new.machine in
    all_printed c.args.first.now c.args.last.now (reverse found.1) (g.W.Sink.report now.out).taken
    (g.W.Sink.report c.write_lines.new.out).taken now.lines c.write_lines.new.lines now.most c.args.self.now.most
    now.count now.chain (found.4 first).0 (search rules) c.recover_from.ensures.rules (search rules)
    c.in-Ok.ensures.shown c.in-Ok.ensures.none
