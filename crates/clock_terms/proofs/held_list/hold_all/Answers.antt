-- One step of the loop adds an entry for the next demand if it is positive.
use Rattle.std.proofs.Common.{◌≡◌, ℕ, ◌<◌, ◌≤◌, ◌∙◌, length, get_or, subst, ⊎_elim, arith}
use Rattle.std.proofs.lemmas.Bool.{cases_lt}
use Rattle.std.proofs.lemmas.List.{ext_get_or}
use Rattle.clock_terms.specs.HeldDemands.{demand_for, demands_of}
use Rattle.clock_terms.specs.inside.Rows.{ArePositiveDemands}
use Rattle.clock_terms.proofs.HeldLaws.{length-demands, order_none, shown}
use Rattle.clock_terms.proofs.held_list.hold_all.Goals as goal

pub loop-product-init : goal.loop-product-init
loop-product-init c = record {
  order = order_none c.args.held.now.items 0 c.requires.empty;
  shown = λ k below. absurd (omega (arith, below));
}

pub loop-product-preserved : goal.loop-product-preserved
loop-product-preserved c =
    let product = c.loop-product.product in
    let held = c.in_ok-hold.ensures in
    record {
      order = held.order;
      shown = λ k below.
          ⊎_elim
          (λ (before : k < product). held.others k before ∙ c.loop-product.invariant.shown k before)
          (λ (last : product ≤ k).
          let here : product ≡ k = omega (arith, below, last) in
          subst (λ (place : ℕ). demand_for c.hold.new.held.items place ≡ get_or c.args.demands.now place 0) here
          held.here)
          (cases_lt k product);
    }

pub returns-clause-order : goal.returns-clause-order
returns-clause-order c = λ _.
    let end : c.loop-product.product ≡ length c.args.demands.now =
    omega (arith, c.loop-product-test.false, c.loop-product.auto.product-end) in
    subst (λ (count : ℕ). ArePositiveDemands 0 c.loop-product.held.items count) end c.loop-product.invariant.order

pub returns-clause-demands : goal.returns-clause-demands
returns-clause-demands c = λ _.
    let demands = c.args.demands.now in
    let held = c.loop-product.held.items in
    let end : c.loop-product.product ≡ length demands =
    omega (arith, c.loop-product-test.false, c.loop-product.auto.product-end) in
    ext_get_or 0 (demands_of (length demands) held) demands (length-demands (length demands) held)
    (λ k below.
    let inside : k < length demands = omega (arith, below, length-demands (length demands) held) in
    shown (length demands) held k 0 inside ∙ c.loop-product.invariant.shown k (omega (arith, inside, end)))
