-- All demands before the first entry's product are 0.
use Rattle.std.proofs.Common.{List, ap, ◌∙◌}
use Rattle.clock_terms.specs.declared.held_list.PositiveDemand.{PositiveDemand}
use Rattle.clock_terms.specs.HeldDemands.{next_of}
use Rattle.clock_terms.proofs.HeldLaws.{none_first}
use Rattle.clock_terms.proofs.row.PackedRow.held.Goals as goal

pub returns-clause-passed : goal.returns-clause-passed
returns-clause-passed c =
    let row = c.self.inside in
    none_first row.count row.held.items c.args.self.now c.of.result.from c.self.invariant.0 c.self.view_is (ap (λ w.
    w.from) c.of.ensures ∙ ap (λ (held : List PositiveDemand). next_of row.count held) c.as_slice.ensures.value)
