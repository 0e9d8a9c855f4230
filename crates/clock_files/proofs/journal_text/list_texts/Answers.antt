use Rattle.std.proofs.Common.{rules}
use Rattle.clock_files.proofs.ListingLaws.{listing_is}
use Rattle.clock_files.proofs.journal_text.list_texts.Goals as goal

pub returns-in-Ok-listed-clause-ok : goal.returns-in-Ok-listed-clause-ok
returns-in-Ok-listed-clause-ok g c =
    let found = c.in-Ok.ensures.ok in (
      found.0,
      found.2,
      listing_is c.args.first.now found.0 found.1 (g.W.Sink.report c.args.out).taken
          (g.W.Sink.report c.print_texts-out.result.0).taken c.in-Ok.recovered (search rules) found.3
          (rw c.in-Ok-listed.is at c.print_texts-out.ensures.ok),
    )
