-- Proves the laws of the posting, from its parts.
use Rattle.std.proofs.Common.{rules}
use Rattle.clock_posting.specs.declared.posting.Posting.{Posting}
use Rattle.clock_posting.specs.Posting.{IsPosting}
use Rattle.clock_posting.proofs.Laws.{consistent}
use Rattle.clock_posting.proofs.posting.RoundEnd.posting.Goals as goal

pub returns-clause-laws : goal.returns-clause-laws
returns-clause-laws c =
    let end = c.args.self.now in
    let made : Posting = record {
      sheet = record { round = end.round; ended = c.is_none.result; lines = c.in_ok-lines.lines };
      next = c.in_ok-next.next;
    } in
    let is : IsPosting end.round end.products.now end.prices.now end.grid.now end.posted.now end.increments.now made =
    search rules in
    consistent end.products.now end.prices.now end.grid.now end.posted.now end.increments.now end.round made
    c.requires.between c.in_ok-next.ensures.rising is
