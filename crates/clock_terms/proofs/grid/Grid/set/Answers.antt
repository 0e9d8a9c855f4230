-- The new total is the old one, less the demand before, plus the new demand. It fits, and the grid's invariant remains.
use Rattle.std.proofs.Common.{◌≡◌, ◌<◌, ◌∙◌, [], length, All, sym, arith}
use Rattle.std.proofs.lemmas.List.{get_or_default}
use Rattle.clock_terms.specs.Demands.{row_of, total_of, demand_at}
use Rattle.clock_terms.proofs.DemandLaws.{in_totals, total_after, kept_with_demand}
use Rattle.clock_terms.proofs.grid.Grid.set.Goals as goal

pub overflow_add-total : goal.overflow_add-total
overflow_add-total c =
    let rows = c.self.inside.rows.items in
    let total : c.total-total.result ≡ total_of rows c.args.product = rw c.self.view_is c.total-total.ensures in
    let within : c.args.bidder < length rows = rw c.self.view_is c.requires.bidder in
    let row : c.index_mut-row.result.now ≡ row_of rows c.args.bidder =
    c.index_mut-row.ensures.value ∙ get_or_default rows c.args.bidder _ [] within in
    let held : c.get-before.result ≡ demand_at rows c.args.bidder c.args.product =
    rw (sym row) c.get-before.ensures.is in
    let after = total_after rows c.self.inside.totals c.args.bidder c.args.product c.args.demand c.self.invariant within
    c.requires.small in
    omega (arith, total, held, after.1)

pub invariant_of-self : goal.invariant_of-self
invariant_of-self c =
    let rows = c.self.inside.rows.items in
    let totals = c.self.inside.totals in
    let total : c.total-total.result ≡ total_of rows c.args.product = rw c.self.view_is c.total-total.ensures in
    let within : c.args.bidder < length rows = rw c.self.view_is c.requires.bidder in
    let wide : All (λ row. c.args.product < length row) rows = rw c.self.view_is c.requires.product in
    let there : c.args.product < length totals = in_totals rows totals c.args.product c.self.invariant wide in
    let row : c.index_mut-row.result.now ≡ row_of rows c.args.bidder =
    c.index_mut-row.ensures.value ∙ get_or_default rows c.args.bidder _ [] within in
    let held : c.get-before.result ≡ demand_at rows c.args.bidder c.args.product =
    rw (sym row) c.get-before.ensures.is in
    let after =
    total_after rows totals c.args.bidder c.args.product c.args.demand c.self.invariant within c.requires.small in
    rw (c.set-2.ensures, c.set.ensures, total, held, row)
    (kept_with_demand rows totals c.args.bidder c.args.product c.args.demand _ c.self.invariant within there
    c.requires.small after.0)
