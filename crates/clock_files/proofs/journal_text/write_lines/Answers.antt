use Rattle.clock_files.proofs.ListingLaws.{written_shown}
use Rattle.clock_files.proofs.journal_text.write_lines.Goals as goal

pub returns-clause-shown : goal.returns-clause-shown
returns-clause-shown g c = λ text shown. written_shown (g.W.Sink.report c.args.out.now).taken
    (g.W.Sink.report c.write_all.new.sink).taken c.args.lines.now c.as_slice.result.now c.new.result text
    c.as_slice.ensures c.new.ensures c.in_ok-write_all.ensures.bytes shown
