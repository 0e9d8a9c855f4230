-- At the end all rows have the demands of their cells, if there are cells.
use Rattle.std.proofs.Common.{◌≡◌, ◌∙◌, length, arith}
use Rattle.clock_terms.proofs.OpenLaws.{shown_written}
use Rattle.clock_terms.proofs.open_grid.OpenRows.into_rows.Goals as goal

pub returns : goal.returns
returns c =
    let rows = c.self.inside.rows.items in
    let cells = c.self.inside.cells.items in
    let end : c.loop-bidder.bidder ≡ length cells =
    omega (arith, c.loop-bidder-test.false, c.loop-bidder.auto.bidder-end, c.len-bidder-end.ensures) in
    shown_written rows cells c.loop-bidder.rows.items c.self.invariant c.loop-bidder.invariant.each
    (λ k within. c.loop-bidder.invariant.written k (omega (arith, within, end)))
    (λ k past. c.loop-bidder.invariant.rest k (omega (arith, past, end))) ∙ c.self.view_is
