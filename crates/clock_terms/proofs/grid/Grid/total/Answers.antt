-- By the invariant of `Grid`, the stored total is the aggregate demand.
use Rattle.std.proofs.Common.{◌<◌, ◌∙◌, List, ℕ, All, length, ap, get_or}
use Rattle.clock_terms.specs.Demands.{total_of}
use Rattle.clock_terms.proofs.DemandLaws.{in_totals}
use Rattle.clock_terms.proofs.grid.Grid.total.Goals as goal

pub returns : goal.returns
returns c =
    let rows = c.self.inside.rows.items in
    let product = c.args.product in
    let wide : All (λ row. product < length row) rows = rw c.self.view_is c.requires in
    ap (λ (list : List ℕ). get_or list product 0) c.deref.ensures
    ∙ c.self.invariant.kept product (in_totals rows c.self.inside.totals product c.self.invariant wide)
    ∙ ap (λ (grid : List (List ℕ)). total_of grid product) c.self.view_is
