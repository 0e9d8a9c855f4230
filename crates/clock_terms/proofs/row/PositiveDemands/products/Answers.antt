-- The row that contracts see has `count` demands.
use Rattle.std.proofs.Common.{length, ap, sym, ◌∙◌}
use Rattle.clock_terms.proofs.HeldLaws.{length-demands}
use Rattle.clock_terms.proofs.row.PositiveDemands.products.Goals as goal

pub returns : goal.returns
returns c =
    sym (length-demands c.self.inside.count c.self.inside.held.now) ∙ ap (λ walk. length walk.demands) c.self.view_is
