-- The demand in the entries is the one in the row that contracts see.
use Rattle.std.proofs.Common.{List, ap, ◌∙◌}
use Rattle.clock_terms.specs.declared.held_list.PositiveDemand.{PositiveDemand}
use Rattle.clock_terms.specs.HeldDemands.{demand_for}
use Rattle.clock_terms.proofs.HeldLaws.{kept_demand}
use Rattle.clock_terms.proofs.row.PackedRow.get.Goals as goal

pub returns : goal.returns
returns c =
    let row = c.self.inside in
    c.demand_at.ensures.is
    ∙ ap (λ (list : List PositiveDemand). demand_for list c.args.product) c.as_slice-held.ensures.value
    ∙ kept_demand row.count row.held.items c.args.self.now c.args.product c.self.view_is c.requires
