-- Proves that the loop stops at a product with excess demand, or that there is none.
use Rattle.std.proofs.Common.{length, sym, ap, arith}
use Rattle.std.specs.Prelude.{not}
use Rattle.clock_posting.specs.Posting.{has_excess}
use Rattle.clock_posting.proofs.Ranges.{none_in_range, one_in_range}
use Rattle.clock_posting.proofs.Excess.{has_excess_at}
use Rattle.clock_posting.proofs.posting.has_ended.Goals as goal

pub returns-then-total-product : goal.returns-then-total-product
returns-then-total-product c =
    let products = c.args.products.now in
    let grid = c.args.grid.now in
    sym (ap not (one_in_range (has_excess products grid) (length products) c.loop-i.i c.loop-i-test.true (has_excess_at
    products grid c.loop-i.i c.index-products-i.result c.loop-i-test.true c.index-products-i.is (omega arith))))

pub returns : goal.returns
returns c =
    let products = c.args.products.now in
    let grid = c.args.grid.now in
    sym (ap not
    (none_in_range (has_excess products grid) 0 (length products) (λ k low high. c.loop-i.invariant k (omega arith))))
