-- The indices move as the heap's items do, and marked ones are among them.
use Rattle.std.proofs.Common.{◌≡◌, ℕ, List, ◌∷◌, Bool, true, false, get_or, subst, sym, ◌∙◌, inl, inr, refl}
use Rattle.std.specs.List.{Contains}
use Rattle.std.specs.List.Sorted.{IsPermutation}
use Rattle.std.specs.BinaryHeap.{heap_items}
use Rattle.std.specs.declared.cmp.Reverse.{Reverse}
use Rattle.std.proofs.lemmas.List.Sorted.{IsPermutation-map}
use Rattle.clock_queue.specs.inside.Ready.{places_of, IsMarked}
use Rattle.clock_queue.proofs.Marks.{marked_added}
use Rattle.clock_queue.proofs.lines.Ready.add.Goals as goal

pub returns-then-is_marked : goal.returns-then-is_marked
returns-then-is_marked c = inl (record {
  there = subst (λ (places : List ℕ). Contains places c.args.place) c.self.view_is
      (c.self.invariant.marked c.args.place (sym c.is_marked.ensures ∙ c.if-is_marked.true));
  same = refl;
})

pub returns : goal.returns
returns c =
    inr (subst (λ (places : List ℕ). IsPermutation (c.args.place ∷ places) (places_of (heap_items c.push.new.self)))
    c.self.view_is (IsPermutation-map (λ (item : Reverse ℕ). item.0) _ _ c.in_ok-push.ensures.permutation))

pub invariant_of-self : goal.invariant_of-self
invariant_of-self c = subst (λ (heap : List (Reverse ℕ)). IsMarked heap c.self.inside.marks)
    (sym c.in_err-push.ensures.unchanged.0) c.self.invariant

pub invariant_of-self-2 : goal.invariant_of-self-2
invariant_of-self-2 c = record {
  in_order = c.in_ok-push.ensures.heap_order c.self.invariant.in_order;
  marked = subst (λ (marks : List Bool). (one : ℕ) → get_or marks one false ≡ true
      → Contains (places_of (heap_items c.push.new.self)) one) (sym c.mark.ensures) (marked_added c.self.inside.marks
      (places_of (heap_items c.self.inside.heap)) (places_of (heap_items c.push.new.self)) c.args.place
      c.self.invariant.marked (IsPermutation-map (λ (item : Reverse ℕ). item.0) _ _ c.in_ok-push.ensures.permutation));
}
