-- The heap is in the opposite order, so its greatest item is the least index.
use Rattle.std.proofs.Common.{◌≡◌, ℕ, ◌≤◌, List, [], ◌∷◌, map, get_or, sym, subst, Bool, true, false}
use Rattle.std.specs.Ordering.{is_lt, nat_cmp}
use Rattle.std.specs.List.Sorted.{IsPermutation}
use Rattle.std.specs.BinaryHeap.{heap_items}
use Rattle.std.specs.declared.cmp.Reverse.{Reverse}
use Rattle.std.proofs.lemmas.List.Sorted.{IsPermutation-map, le_from_greatest}
use Rattle.std.proofs.lemmas.List.Elements.{All-from_recursion, All-weaker, All-map, All-head}
use Rattle.std.specs.List.{Contains}
use Rattle.clock_queue.specs.inside.Ready.{places_of}
use Rattle.clock_queue.proofs.Marks.{marked_taken}
use Rattle.clock_queue.proofs.lines.Ready.pop.Goals as goal

pub returns-clause-taken : goal.returns-clause-taken
returns-clause-taken c = subst (λ (places : List ℕ). IsPermutation places
    (c.in_ok-place.field-0.0 ∷ map (λ (item : Reverse ℕ). item.0) (heap_items c.pop.new.self))) c.self.view_is
    (IsPermutation-map (λ (item : Reverse ℕ). item.0) _ _ c.in_ok-place.ensures.permutation)

not_less : (a b : ℕ) → is_lt (nat_cmp a b) ≡ false → b ≤ a
not_less a b h = All-head (λ y. y ≤ a) b [] (le_from_greatest a (b ∷ []) (h, tt))

pub returns-clause-least : goal.returns-clause-least
returns-clause-least c =
    All-map (λ other. c.in_ok-place.field-0.0 ≤ other) (λ (item : Reverse ℕ). item.0) (heap_items c.pop.new.self)
    (All-weaker (λ (item : Reverse ℕ). is_lt (nat_cmp item.0 c.in_ok-place.field-0.0) ≡ false) (λ (item : Reverse ℕ).
    c.in_ok-place.field-0.0 ≤ item.0) (λ item. not_less item.0 c.in_ok-place.field-0.0) (heap_items c.pop.new.self)
    (All-from_recursion (λ (item : Reverse ℕ). is_lt (nat_cmp item.0 c.in_ok-place.field-0.0) ≡ false)
    (heap_items c.pop.new.self) (c.in_ok-place.ensures.below_top c.self.invariant.in_order)))

pub invariant_of-self-2 : goal.invariant_of-self-2
invariant_of-self-2 c = record {
  in_order = (c.in_ok-place.ensures.heap_order c.self.invariant.in_order).0;
  marked = subst (λ (marks : List Bool). (one : ℕ) → get_or marks one false ≡ true
      → Contains (places_of (heap_items c.pop.new.self)) one) (sym c.mark.ensures) (marked_taken c.self.inside.marks
      (places_of (heap_items c.self.inside.heap)) (places_of (heap_items c.pop.new.self)) c.in_ok-place.field-0.0
      c.self.invariant.marked (IsPermutation-map (λ (item : Reverse ℕ). item.0) _ _ c.in_ok-place.ensures.permutation));
}
