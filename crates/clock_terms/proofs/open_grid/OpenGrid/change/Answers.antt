-- The total changes by the amount by which the demand changes. It fits, and the grid's invariant remains.
use Rattle.std.proofs.Common.{ℕ, ◌≡◌, ◌<◌, ◌≤◌, length, All, ap, arith}
use Rattle.clock_terms.specs.declared.change.Kind.TheVariants.{Reduction}
use Rattle.clock_terms.specs.Demands.{total_of, demand_at, changed_demand}
use Rattle.clock_terms.specs.Limits.{most_supply}
use Rattle.clock_terms.proofs.DemandLaws.{in_totals, kept_with_demand}
use Rattle.clock_terms.proofs.OpenLaws.{changed_total, small_total}
use Rattle.clock_terms.proofs.open_grid.OpenGrid.change.Goals as goal

pub after-requires : goal.after-requires
after-requires c =
    let rows = c.self.inside.rows in
    let total : c.total-total.result ≡ total_of rows c.args.product = rw c.self.view_is c.total-total.ensures in
    let small : changed_demand c.args.kind (demand_at rows c.args.bidder c.args.product) c.args.amount ≤ most_supply =
    rw c.self.view_is c.requires.small in
    let most = small_total c.args.kind rows c.self.inside.totals c.args.bidder c.args.product c.args.amount
    c.self.invariant small in
    omega (arith, most, ap (λ (n : ℕ). changed_demand c.args.kind n c.args.amount) total)

pub invariant_of-self : goal.invariant_of-self
invariant_of-self c =
    let rows = c.self.inside.rows in
    let totals = c.self.inside.totals in
    let total : c.total-total.result ≡ total_of rows c.args.product = rw c.self.view_is c.total-total.ensures in
    let within : c.args.bidder < length rows = rw c.self.view_is c.requires.bidder in
    let wide : All (λ row. c.args.product < length row) rows = rw c.self.view_is c.requires.product in
    let there : c.args.product < length totals = in_totals rows totals c.args.product c.self.invariant wide in
    let demand = changed_demand c.args.kind (demand_at rows c.args.bidder c.args.product) c.args.amount in
    let small : demand ≤ most_supply = rw c.self.view_is c.requires.small in
    let held : c.args.kind ≡ Reduction → c.args.amount ≤ demand_at rows c.args.bidder c.args.product =
    rw c.self.view_is c.requires.held in
    rw (c.set.ensures, c.after.ensures, total, c.change.ensures)
    (kept_with_demand rows totals c.args.bidder c.args.product demand _ c.self.invariant within there small
    (changed_total c.args.kind rows totals c.args.bidder c.args.product c.args.amount c.self.invariant within held))
