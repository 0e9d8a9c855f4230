-- One step of the loop: a bid that maintains demand has no fault, and adds its units to the activity.
use Rattle.std.proofs.Common.{◌*◌, ◌<◌, ℕ, List, length, ◌∙◌, refl, ap, sym, arith, get_or}
use Rattle.std.proofs.lemmas.List.{get_or_default}
use Rattle.clock_terms.specs.declared.prices.PricePair.{PricePair}
use Rattle.clock_terms.specs.declared.setup.Product.{Product}
use Rattle.clock_terms.specs.Prices.{prices_at}
use Rattle.clock_bids.proofs.Judging.{judged-maintained}
use Rattle.clock_bids.proofs.Tables.{no_bid}
use Rattle.clock_bids.proofs.maintained.judge_maintained.Goals as goal

pub loop-i-init : goal.loop-i-init
loop-i-init c = record {
  row = refl;
  next = c.requires.next;
  count = refl;
  more = omega arith;
  judged = c.requires.judged;
}

pub loop-i-preserved : goal.loop-i-preserved
loop-i-preserved c =
    let list = c.args.setup.now.products in
    let demands = c.args.held.now.demands in
    let bids = c.args.bids.now in
    let i = c.loop-i.i in
    let bid = get_or bids i no_bid in
    let all = c.loop-i.invariant in
    let same = c.as_slice-products.ensures ∙ ap (λ s. s.products) c.setup.view_is in
    let known : bid.product < length list =
    omega (arith, c.if-next-products.false, c.if-bid-next.false, ap (λ (ps : List Product). length ps) same) in
    let priced : c.loop-i.next.product < length c.args.prices.now =
    omega (arith, known, c.if-bid-next.false, c.requires.prices) in
    let pair = c.index-prices-next.is ∙ get_or_default c.args.prices.now c.loop-i.next.product
    c.index-prices-next.result (record { start = 0; clock = 0 }) priced
    ∙ ap (λ product. prices_at c.args.prices.now product) (sym c.if-bid-next.false) in
    let clock = c.if-not-is_at_clock.ensures.clock refl in
    let start = c.if-not-is_at_clock.ensures.start refl in
    let here : bid.product < length c.loop-i.held.demands =
    omega (arith, known, c.requires.demands.each, ap (λ (row : List ℕ). length row) all.row) in
    record {
      row = c.first_held.ensures.row ∙ all.row;
      next = c.first_held.ensures.demand;
      count = refl;
      more = omega (arith, all.more);
      judged = judged-maintained list c.args.prices.now demands bids i c.loop-i.judged.least c.loop-i.judged.taken
          c.as_slice-products.result.now c.index-products-next.result c.taken_with.result all.judged c.loop-i-test.true
          same c.requires.demands known (omega (arith, c.if-bid-judged.false)) (c.if-bid-next-2.false
          ∙ all.next.demand (omega (arith, here, c.if-bid-next.false))
          ∙ ap (λ (row : List ℕ). get_or row c.loop-i.next.product 0) all.row ∙ ap (λ product. get_or demands product 0)
          (sym c.if-bid-next.false))
          (clock ∙ ap (λ (one : PricePair). one.clock) pair)
          (omega (arith, start, ap (λ (one : PricePair). one.start) pair))
          (omega (
            arith,
            c.taken_with.ensures.exact,
            ap (λ product. (get_or c.as_slice-products.result.now product
                c.index-products-next.result).units * bid.quantity) c.if-bid-next.false,
            ap (λ (one : Product). one.units * bid.quantity) c.index-products-next.is,
          )) c.taken_with.ensures.most;
    }

pub taken_with-requires-clause-quantity : goal.taken_with-requires-clause-quantity
taken_with-requires-clause-quantity c = omega (arith, c.if-bid-next-2.false, c.loop-i.invariant.next.small)

pub taken_with-requires-clause-taken : goal.taken_with-requires-clause-taken
taken_with-requires-clause-taken c =
    let small = c.loop-i.invariant.judged.judged.small in
    omega (arith, small, c.requires.few, c.loop-i-test.true)

pub first_held-requires : goal.first_held-requires
first_held-requires c =
    let same = c.as_slice-products.ensures ∙ ap (λ s. s.products) c.setup.view_is in
    ap (λ (ps : List Product). length ps) same ∙ sym c.requires.demands.each
    ∙ sym (ap (λ (row : List ℕ). length row) c.loop-i.invariant.row)

pub returns-then-next-products-clause-row : goal.returns-then-next-products-clause-row
returns-then-next-products-clause-row c = c.loop-i.invariant.row

pub returns-then-next-products-clause-next : goal.returns-then-next-products-clause-next
returns-then-next-products-clause-next c = c.loop-i.invariant.next

pub returns-then-next-products-clause-judged : goal.returns-then-next-products-clause-judged
returns-then-next-products-clause-judged c =
    rw c.loop-i.invariant.count c.loop-i.invariant.judged

pub returns-then-next-products-clause-more : goal.returns-then-next-products-clause-more
returns-then-next-products-clause-more c = omega (arith, c.loop-i.invariant.count, c.loop-i.invariant.more)

pub returns-clause-row : goal.returns-clause-row
returns-clause-row c = c.loop-i.invariant.row

pub returns-clause-next : goal.returns-clause-next
returns-clause-next c = c.loop-i.invariant.next

pub returns-clause-judged : goal.returns-clause-judged
returns-clause-judged c =
    rw c.loop-i.invariant.count c.loop-i.invariant.judged

pub returns-clause-more : goal.returns-clause-more
returns-clause-more c = omega (arith, c.loop-i.invariant.count, c.loop-i.invariant.more)
