-- One step of the loop writes the next demand after the entries so far, and counts it only if it is positive.
use Rattle.std.proofs.Common.{◌≡◌, ℕ, ◌+◌, ◌<◌, ◌≤◌, ◌∙◌, List, length, take, set, get_or, refl, sym, ap, subst, ⊎_elim}
use Rattle.std.proofs.Common.{arith}
use Rattle.std.proofs.lemmas.Bool.{cases_lt}
use Rattle.std.proofs.lemmas.List.{ext_get_or, length-set, take-set, take_more_set}
use Rattle.clock_terms.specs.declared.held_list.PositiveDemand.{PositiveDemand}
use Rattle.clock_terms.specs.HeldDemands.{demand_for, demands_of}
use Rattle.clock_terms.specs.Limits.{most_supply}
use Rattle.clock_terms.specs.inside.Rows.{ArePositiveDemands}
use Rattle.clock_terms.proofs.HeldLaws.{held_more, held_push, length-demands, none_behind, order_none, push_here}
use Rattle.clock_terms.proofs.HeldLaws.{push_other, shown}
use Rattle.clock_terms.proofs.held_list.write_held.Goals as goal
use Rattle.clock_terms.proofs.held_list.write_held.Goals.{then-demand-gt0, else-demand-gt0}

-- after a demand was written to index `kept`: the first `next` entries are in order, and have this demand and those
-- before
record IsWritten (room : List PositiveDemand) (kept product demand next : ℕ) : Type 0 where
  count : next ≤ kept + 1
  order : ArePositiveDemands 0 (take next (set room kept (record { product = product; demand = demand }))) (product + 1)
  here : demand_for (take next (set room kept (record { product = product; demand = demand }))) product ≡ demand
  others : (other : ℕ) → other < product → demand_for (take next
      (set room kept (record { product = product; demand = demand }))) other ≡ demand_for (take kept room) other

-- a positive demand is one more entry
some : (room : List PositiveDemand) (kept product demand : ℕ) → kept < length room → ArePositiveDemands 0
    (take kept room) product → 0 < demand → demand ≤ most_supply → IsWritten room kept product demand (kept + 1)
some room kept product demand within are more few =
    let one : PositiveDemand = record { product = product; demand = demand } in
    let grown = take_more_set room kept one within in
    record {
      count = omega arith;
      order = subst (λ (list : List PositiveDemand). ArePositiveDemands 0 list (product + 1)) (sym grown)
          (held_push 0 (take kept room) product one are (omega arith) more few);
      here = ap (λ (list : List PositiveDemand). demand_for list product) grown
          ∙ push_here 0 (take kept room) product one are (omega arith);
      others = λ other below. ap (λ (list : List PositiveDemand). demand_for list other) grown
          ∙ push_other (take kept room) one other (λ same. omega (arith, same, below));
    }

-- a demand of 0 is no entry
none : (room : List PositiveDemand) (kept product demand : ℕ) → ArePositiveDemands 0 (take kept room) product
    → demand ≤ 0 → IsWritten room kept product demand kept
none room kept product demand are nothing =
    let one : PositiveDemand = record { product = product; demand = demand } in
    let same = take-set room kept one in
    record {
      count = omega arith;
      order = subst (λ (list : List PositiveDemand). ArePositiveDemands 0 list (product + 1)) (sym same)
          (held_more 0 (take kept room) product (product + 1) are (omega arith));
      here = ap (λ (list : List PositiveDemand). demand_for list product) same
          ∙ none_behind 0 (take kept room) product product are (omega arith) ∙ omega (arith, nothing);
      others = λ other below. ap (λ (list : List PositiveDemand). demand_for list other) same;
    }

pub loop-product-init : goal.loop-product-init
loop-product-init c = record {
  few = omega arith;
  same = refl;
  order = order_none (take 0 c.args.room.now) 0 refl;
  shown = λ k below. absurd (omega (arith, below));
}

pub loop-product-preserved : goal.loop-product-preserved
loop-product-preserved c =
    let room = c.loop-product.room in
    let kept = c.loop-product.kept in
    let product = c.loop-product.product in
    let demands = c.args.demands.now in
    let are = c.loop-product.invariant.order in
    let written : IsWritten room kept product (get_or demands product 0) c.if-demand-gt0.kept =
    elim c.if-demand-gt0.branch [
      | then-demand-gt0 w ↦
          subst (λ (next : ℕ). IsWritten room kept product (get_or demands product 0) next) (sym w.kept-is)
          (some room kept product (get_or demands product 0) (omega arith) are w.if-demand-gt0.true (omega arith))
      | else-demand-gt0 w ↦ subst (λ (next : ℕ). IsWritten room kept product (get_or demands product 0) next)
          (sym w.kept-is) (none room kept product (get_or demands product 0) are (omega arith))
    ] in
    record {
      few = omega (arith, written.count);
      same = length-set room kept (record { product = product; demand = get_or demands product 0 })
          ∙ c.loop-product.invariant.same;
      order = written.order;
      shown = λ k below.
          ⊎_elim
          (λ (before : k < product). written.others k before ∙ c.loop-product.invariant.shown k before)
          (λ (last : product ≤ k).
          let after = set room kept (record { product = product; demand = get_or demands product 0 }) in
          let here : product ≡ k = omega (arith, below, last) in
          subst (λ (place : ℕ). demand_for (take c.if-demand-gt0.kept after) place
          ≡ get_or demands place 0) here written.here) (cases_lt k product);
    }

pub returns-clause-demands : goal.returns-clause-demands
returns-clause-demands c =
    let demands = c.args.demands.now in
    let held = take c.loop-product.kept c.loop-product.room in
    let end : c.loop-product.product ≡ length demands =
    omega (arith, c.loop-product-test.false, c.loop-product.auto.product-end) in
    ext_get_or 0 (demands_of (length demands) held) demands (length-demands (length demands) held)
    (λ k below.
    let inside : k < length demands = omega (arith, below, length-demands (length demands) held) in
    shown (length demands) held k 0 inside ∙ c.loop-product.invariant.shown k (omega (arith, inside, end)))
