-- The bounds fit the costs when one is spent, and when a block is passed.
use Rattle.std.proofs.Common.{ℕ, ◌*◌, ◌+◌, ◌/◌, ◌<◌, List, ap, length, set, subst, ◌∙◌}
use Rattle.std.proofs.lemmas.List.{length-set}
use Rattle.clock_queue.specs.inside.Costs.{AreFrom, spent}
use Rattle.clock_queue.proofs.Bounds.{block_passed, cost_spent, refilled}
use Rattle.clock_queue.proofs.costs.Costs.spend.Goals as goal

pub passed-init : goal.passed-init
passed-init c =
    let costs = c.self.inside.costs.items in
    let bounds = c.self.inside.bounds.items in
    let place = c.args.place in
    let costs_are = refilled costs (set c.deref_mut.result.now place spent)
    (length-set c.deref_mut.result.now place spent ∙ ap (λ (list : List ℕ). length list) c.deref_mut.ensures.value)
    ∙ ap (λ (list : List ℕ). set list place spent) c.deref_mut.ensures.value in
    let bounds_are = refilled bounds (set c.deref_mut-2.result.now (place / 64) c.least_in.result)
    (length-set c.deref_mut-2.result.now (place / 64) c.least_in.result
    ∙ ap (λ (list : List ℕ). length list) c.deref_mut-2.ensures.value)
    ∙ ap (λ (list : List ℕ). set list (place / 64) c.least_in.result) c.deref_mut-2.ensures.value in
    let least = subst (λ (list : List ℕ). AreFrom c.least_in.result list (64 * (place / 64)) (64 * (place / 64) + 64))
    (c.as_slice.ensures ∙ costs_are) c.least_in.ensures in
    record {
      bounds = rw (costs_are, bounds_are) (cost_spent costs bounds c.self.inside.passed place c.least_in.result
          c.self.invariant (rw (← c.self.view_is) at c.requires) least);
      costs = costs_are ∙ ap (λ (list : List ℕ). set list place spent) c.self.view_is;
    }

pub passed-preserved : goal.passed-preserved
passed-preserved c = record {
  bounds = block_passed c.passed.self-inside.costs.items c.passed.self-inside.bounds.items c.passed.self-inside.passed
      c.passed.invariant.bounds (subst (λ n. c.passed.self-inside.passed < n) c.len.ensures.value c.passed-test.true)
      (rw c.deref.ensures at c.if-deref-self.true);
  costs = c.passed.invariant.costs;
}
