-- The bounds fit the costs at each return.
use Rattle.std.proofs.Common.{ℕ, ◌/◌, ◌∷◌, [], ◌++◌, List, ap, sym, subst, ◌∙◌}
use Rattle.clock_queue.specs.inside.Costs.{HasBounds}
use Rattle.clock_queue.proofs.Bounds.{HasNext, added_as, bound_made}
use Rattle.clock_queue.proofs.costs.Costs.push.Goals.{In_ok-make_bound}
use Rattle.clock_queue.proofs.costs.Costs.push.Goals as goal

made : (c : In_ok-make_bound) → HasNext c.self.inside.costs.items c.make_bound.new.bounds.items c.self.inside.passed
    (c.len-block.result / 64)
made c = bound_made c.self.inside.costs.items c.self.inside.bounds.items c.self.inside.passed (c.len-block.result / 64)
    c.self.invariant (ap (λ n. n / 64) c.len-block.ensures.value) c.make_bound.new.bounds.items
    c.in_ok-make_bound.ensures.ok

pub invariant_of-self : goal.invariant_of-self
invariant_of-self c = subst (λ (list : List ℕ). HasBounds c.self.inside.costs.items list c.self.inside.passed)
    (sym c.in_err-make_bound.ensures.err) c.self.invariant

pub invariant_of-self-in_err-push : goal.invariant_of-self-in_err-push
invariant_of-self-in_err-push c =
    rw c.in_err-push.ensures.err (made (goal.at.invariant_of-self-in_err-push c).In_ok-make_bound).fit

pub bounds-deref-block : goal.bounds-deref-block
bounds-deref-block c = rw c.deref.ensures (made (goal.at.bounds-deref-block c).In_ok-make_bound).within

pub bounds-deref_mut-block : goal.bounds-deref_mut-block
bounds-deref_mut-block c =
    rw c.deref_mut.ensures.value (made (goal.at.bounds-deref_mut-block c).In_ok-make_bound).within

pub invariant_of-self-2 : goal.invariant_of-self-2
invariant_of-self-2 c =
    added_as c.self.inside.costs.items c.make_bound.new.bounds.items c.self.inside.passed (c.len-block.result / 64)
    c.args.cost (made (goal.at.invariant_of-self-2 c).In_ok-make_bound) (ap (λ n. n / 64) c.len-block.ensures.value)
    c.push.new.self.items c.deref_mut.result.now c.deref.result.now c.min.result c.min-self-inside.result
    c.in_ok-push.ensures.ok c.deref_mut.ensures.value c.deref.ensures c.min.ensures c.min-self-inside.ensures

pub returns-clause-ok : goal.returns-clause-ok
returns-clause-ok c =
    c.in_ok-push.ensures.ok ∙ ap (λ (list : List ℕ). list ++ c.args.cost ∷ []) c.self.view_is
