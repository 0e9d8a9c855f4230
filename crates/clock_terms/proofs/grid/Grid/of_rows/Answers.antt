-- The totals of the first rows are at most a thousand blocks for each bidder. At the end they are the totals of all
-- rows.
use Rattle.std.proofs.Common.{◌≤◌, List, ℕ, All, length, take, ap, sym, subst, ◌∙◌, arith}
use Rattle.std.proofs.lemmas.List.{length-take-le, get_or_default, take_all}
use Rattle.std.proofs.lemmas.List.Elements.{All-take}
use Rattle.clock_terms.specs.Demands.{total_of}
use Rattle.clock_terms.specs.Limits.{IsProduct, most_supply}
use Rattle.clock_terms.proofs.DemandLaws.{rows_small, kept_of_rows, total_small}
use Rattle.clock_terms.proofs.grid.Grid.of_rows.Goals as goal

pub add_row-requires-clause-small : goal.add_row-requires-clause-small
add_row-requires-clause-small c k d within =
    let rows = c.args.rows.items in
    let index = c.loop-row.row-index in
    let small = rows_small c.args.setup.now.products rows c.requires.rows
    (subst (λ list. All IsProduct list) (ap (λ s. s.products) c.setup.view_is) c.setup.invariant.products) in
    omega (
      arith,
      get_or_default c.loop-row.totals k d 0 within,
      c.loop-row.invariant.totals k (omega (arith, within, c.loop-row.invariant.each)),
      ap (λ (list : List (List ℕ)). total_of (take index list) k) c.as_slice-row-items.ensures.value,
      total_small (take index rows) k (All-take (λ row. All (λ demand. demand ≤ most_supply) row) index rows small),
      length-take-le index rows (omega (
        arith,
        c.loop-row-test.true,
        ap (λ (list : List (List ℕ)). length list) c.as_slice-row-items.ensures.value,
      )),
      c.loop-row-test.true,
      ap (λ (list : List (List ℕ)). length list) c.as_slice-row-items.ensures.value,
      c.requires.bidders,
      ap (λ s. length s.bidders) c.setup.view_is,
      c.setup.invariant.bidder_count.1,
    )

pub invariant_of-result : goal.invariant_of-result
invariant_of-result c =
    let rows = c.args.rows.items in
    let items = c.as_slice-row-items.result.now in
    let whole =
    take_all c.loop-row.row-index items (omega (arith, c.loop-row-test.false)) ∙ c.as_slice-row-items.ensures.value in
    kept_of_rows c.args.setup.now.products rows c.requires.rows _ c.loop-row.totals c.setup.invariant
    (ap (λ s. s.products) c.setup.view_is)
    (c.requires.bidders ∙ sym (ap (λ s. length s.bidders) c.setup.view_is)) c.loop-row.invariant.each (λ product within.
    c.loop-row.invariant.totals product within ∙ ap (λ (list : List (List ℕ)). total_of list product) whole)
