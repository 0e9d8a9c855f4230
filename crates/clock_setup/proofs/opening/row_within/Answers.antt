-- Demand by demand: those so far are within their caps, and the first that is not is the first fault. At the end the
-- sum is the bidder's activity.
use Rattle.std.proofs.Common.{◌≡◌, ◌≤◌, All, List, length, get_or, sym, ap, subst, ◌∙◌, below_more, arith}
use Rattle.std.proofs.lemmas.List.{get_or_default}
use Rattle.clock_terms.specs.declared.setup.Product.{Product}
use Rattle.clock_terms.specs.Limits.{SetupFields, IsProduct}
use Rattle.clock_setup.proofs.OpeningLaws.{row_failed, row_above, row_passed}
use Rattle.clock_setup.proofs.OpeningLaws.{demand_failed, demand_passed, demands_end, within_cap, activity-at}
use Rattle.clock_setup.proofs.OpeningLaws.{units_small, activity-end}
use Rattle.clock_setup.proofs.opening.row_within.Goals.{After-as_slice-products}
use Rattle.clock_setup.proofs.opening.row_within.Goals as goal

-- the products that are read are the set-up's
same : (c : After-as_slice-products) → c.as_slice-products.result.now ≡ c.args.setup.now.products
same c = c.as_slice-products.ensures ∙ ap (λ (s : SetupFields). s.products) c.setup.view_is

-- there is a demand for each of them
each : (c : After-as_slice-products) → length c.args.demands.now ≡ length c.as_slice-products.result.now
each c = c.requires ∙ sym (ap length (same c))

pub returns-then-blocks-products-clause-err : goal.returns-then-blocks-products-clause-err
returns-then-blocks-products-clause-err c = λ known.
    let at = (goal.at.returns-then-blocks-products-clause-err c).After-as_slice-products in
    row_failed (same at) c.args.number c.args.bidder.now c.args.demands.now _
    (sym c.loop-product.invariant.rest ∙ demand_failed c.args.number c.as_slice-products.result.now c.args.demands.now
    c.loop-product.product c.index-products-product.result (each at) c.loop-product-test.true c.if-blocks-products.true)

pub loop-product-preserved : goal.loop-product-preserved
loop-product-preserved c =
    let at = (goal.at.loop-product-preserved c).After-as_slice-products in
    let products = c.as_slice-products.result.now in
    let row = c.args.demands.now in
    let product = c.index-products-product.result in
    let i = c.loop-product.product in
    let known = c.loop-product.invariant in
    let again = c.index-products-product-in-loop-product.result in
    let all : All IsProduct products =
    subst (λ (list : List Product). All IsProduct list) (sym c.as_slice-products.ensures) c.setup.invariant.products in
    let inside : get_or products i product ≡ get_or products i again =
    get_or_default products i product again (omega (arith, c.loop-product-test.true, each at)) in
    let within : get_or row i 0 ≤ (get_or products i again).cap =
    subst (λ (one : Product). get_or row i 0 ≤ one.cap) inside c.if-blocks-products.false in
    let taken = activity-at products row i again c.loop-product-test.true (each at) in
    let most = units_small products row i again c.loop-product-test.true (each at) all within in
    record {
      rest = sym (demand_passed c.args.number products row i product
          (each at) c.loop-product-test.true c.if-blocks-products.false) ∙ known.rest;
      capped = below_more _ _ known.capped (within_cap products i product _
          (omega (arith, c.loop-product-test.true, each at)) c.if-blocks-products.false);
      so_far = omega (arith, known.so_far, taken);
      small = omega (arith, known.small, most);
    }

pub returns-then-units-bidder-clause-err : goal.returns-then-units-bidder-clause-err
returns-then-units-bidder-clause-err c = λ known.
    let products = c.as_slice-products.result.now in
    let row = c.args.demands.now in
    row_above (same (goal.at.returns-then-units-bidder-clause-err c).After-as_slice-products) c.args.number
    c.args.bidder.now row _
    (sym c.loop-product.invariant.rest
    ∙ demands_end c.args.number products row c.loop-product.product c.loop-product-test.false)
    (omega (
      arith,
      c.loop-product.invariant.so_far,
      activity-end products row c.loop-product.product c.loop-product-test.false,
    )) c.if-units-bidder.true

pub returns-clause-ok : goal.returns-clause-ok
returns-clause-ok c =
    let products = c.as_slice-products.result.now in
    let row = c.args.demands.now in
    row_passed (same (goal.at.returns-clause-ok c).After-as_slice-products) c.args.number c.args.bidder.now row _
    (sym c.loop-product.invariant.rest
    ∙ demands_end c.args.number products row c.loop-product.product c.loop-product-test.false)
    (omega (
      arith,
      c.loop-product.invariant.so_far,
      activity-end products row c.loop-product.product c.loop-product-test.false,
    )) c.if-units-bidder.false
