-- The row that contracts see has `count` demands.
use Rattle.std.proofs.Common.{List, ℕ, length, ap, sym, ◌∙◌}
use Rattle.clock_terms.proofs.HeldLaws.{length-demands}
use Rattle.clock_terms.proofs.row.PackedRow.len.Goals as goal

pub returns-clause-is : goal.returns-clause-is
returns-clause-is c =
    sym (length-demands c.self.inside.count c.self.inside.held.items) ∙ ap (λ (row : List ℕ). length row) c.self.view_is
