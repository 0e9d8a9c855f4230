use Rattle.std.proofs.Common.{ℕ, ap, arith}
use Rattle.std.proofs.lemmas.List.{get_or_read}
use Rattle.clock_terms.specs.declared.setup.Product.{Product}
use Rattle.clock_terms.specs.Limits.{no_product}
use Rattle.clock_terms.specs.Requests.{KeepWithinCap}
use Rattle.clock_rules_tests.proofs.settle.row_keeps_caps.Goals as goal
use borrow.Author.Count.{below_more}

pub loop-i-preserved : goal.loop-i-preserved
loop-i-preserved c =
    let P =
    λ (product : ℕ). KeepWithinCap c.args.products.now c.args.demands.now c.args.bidder c.args.changes.now product in
    let read = get_or_read c.args.products.now c.loop-i.i c.index-products-i.result c.loop-i-test.true
    c.index-products-i.is no_product in
    let cap = ap (λ (product : Product). product.cap) read in
    let here : P c.loop-i.i = record {
      raised = omega (arith, cap, c.asked-raised.ensures);
      reduced = omega (arith, c.asked-reduced.ensures);
    } in
    below_more P c.loop-i.i c.loop-i.invariant here
