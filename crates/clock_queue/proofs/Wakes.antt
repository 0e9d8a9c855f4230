-- The invariants of the queue hold after the first request of a line within a limit is made ready. Each request of the
-- line within the limit then has an earlier or equal one that is ready.
use Rattle.std.proofs.Common.{◌≡◌, ℕ, ◌+◌, ◌<◌, ◌≤◌, ◌⊎◌, List, ◌∷◌, refl, ap, sym, subst, ◌∙◌, inl, inr, arith, get_or}
use Rattle.std.proofs.Common.{length, All}
use Rattle.std.specs.List.{Contains}
use Rattle.std.proofs.Math.Logic.{⊎_map}
use Rattle.std.proofs.lemmas.Bool.{cases_eq, cases_lt}
use Rattle.std.proofs.lemmas.List.{length-set, get_or_default}
use Rattle.std.proofs.lemmas.List.Sorted.{length_permutation}
use Rattle.clock_terms.specs.declared.change.Change.{Change}
use Rattle.clock_processor.proofs.Cases.{set_cases}
use Rattle.clock_queue.specs.declared.queue.Queue.{Queue}
use Rattle.clock_queue.specs.inside.Lines.{HasLines, LineFields, empty_line}
use Rattle.clock_queue.specs.inside.Queue.{HasSoundLines, IsLine, IsInLine, IsWaiting, HasWoken, IsMadeReady, IsLeft}
use Rattle.clock_queue.specs.inside.Queue.{line_at, cost_at, line_in}
use Rattle.clock_queue.specs.inside.Ready.{IsAdded}
use Rattle.clock_queue.proofs.Members.{added_there, added_kept, added_below}

-- a ready request of the line, this one or an earlier one, has blocks left and is within the limit
pub record IsCovered (changes : List Change) (line limit : ℕ) (queue : Queue) (place : ℕ) : Type 0 where
  pub at : ℕ
  pub is_ready : Contains queue.ready at
  pub own_line : line_at changes at ≡ line
  pub admitted_before : at < queue.admitted
  pub before : at ≤ place
  pub waits : 0 < get_or queue.left at 0
  pub cost : cost_at changes queue.board.products at ≤ limit

-- one request of the line was made ready
pub record IsOneMore (changes : List Change) (line : ℕ) (old new : Queue) : Type 0 where
  pub at : ℕ
  pub admitted_before : at < old.admitted
  pub own_line : line_at changes at ≡ line
  pub longer : length new.ready ≡ length old.ready + 1

module _ (changes : List Change) (line limit : ℕ) (old new : Queue) (is : HasSoundLines changes old)
    (within : line < length old.lines) (woken : HasWoken line limit old new) where
  line_old : IsLine changes old.board.products old.left old.admitted line (line_in old line)
  line_old = is.each line

  -- the requests in the line are unchanged, and so are the costs of those with blocks left
  members_new : (at : ℕ) → at < length (line_in new line).places
      → IsInLine changes old.admitted line (get_or (line_in new line).places at 0)
  members_new at lt = subst (λ (places : List ℕ). IsInLine changes old.admitted line (get_or places at 0))
      (sym woken.spent.places) (line_old.members at (omega (arith, lt, ap length woken.spent.places)))

  costs_new : (at : ℕ) → at < length (line_in old line).places
      → (get_or old.left (get_or (line_in old line).places at 0) 0 ≡ 0) ⊎ (get_or (line_in new line).costs at 0
      ≡ cost_at changes old.board.products (get_or (line_in old line).places at 0))
  costs_new at lt = elim (woken.spent.spent at lt) as
      (λ _. (get_or old.left (get_or (line_in old line).places at 0) 0 ≡ 0) ⊎ (get_or (line_in new line).costs at 0
      ≡ cost_at changes old.board.products (get_or (line_in old line).places at 0))) [
        | inl same ↦ ⊎_map (λ nothing. nothing) (λ cost. same ∙ cost) (line_old.costs at lt)
        | inr nothing ↦ inl nothing
      ]

  line_new : IsLine changes old.board.products old.left old.admitted line (line_in new line)
  line_new = record {
    lengths = woken.spent.costs ∙ line_old.lengths ∙ ap length (sym woken.spent.places);
    members = members_new;
    ascending = λ one other lt within. subst (λ (places : List ℕ). get_or places one 0 < get_or places other 0)
        (sym woken.spent.places)
        (line_old.ascending one other lt (omega (arith, within, ap length woken.spent.places)));
    costs = λ at lt. subst (λ (places : List ℕ). (get_or old.left (get_or places at 0) 0 ≡ 0)
        ⊎ (get_or (line_in new line).costs at 0 ≡ cost_at changes old.board.products (get_or places at 0)))
        (sym woken.spent.places) (costs_new at (omega (arith, lt, ap length woken.spent.places)));
  }

  each_new : (l : ℕ) → IsLine changes old.board.products old.left old.admitted l (line_in new l)
  each_new l = subst (λ (lines : List LineFields). IsLine changes old.board.products old.left old.admitted l
      (get_or lines l empty_line)) (sym woken.others) (set_cases (IsLine changes old.board.products old.left
      old.admitted) old.lines line (line_in new line) empty_line within line_new (λ k _. is.each k) l)

  places_same : (l : ℕ) → (line_in new l).places ≡ (line_in old l).places
  places_same l = ap (λ (lines : List LineFields). (get_or lines l empty_line).places) woken.others
      ∙ set_cases (λ k (held : LineFields). held.places ≡ (line_in old k).places) old.lines line
      (line_in new line) empty_line within woken.spent.places (λ k _. refl) l

  waiting_new : (place : ℕ) → IsWaiting changes old place
      → IsWaiting changes (record old { ready = new.ready; lines = new.lines }) place
  waiting_new place (inl nothing) = inl nothing
  waiting_new place (inr here) =
      inr (subst (λ (places : List ℕ). Contains places place) (sym (places_same (line_at changes place))) here)

  -- what holds of the request that was made ready
  module _ (made : IsMadeReady line limit old new) where
    at_old : made.first.at < length (line_in old line).places
    at_old = omega (arith, made.first.is_first.within, line_new.lengths, ap length woken.spent.places)

    read_old : get_or (line_in old line).places made.first.at 0 ≡ made.place
    read_old = ap (λ (places : List ℕ). get_or places made.first.at 0) (sym woken.spent.places) ∙ made.first.is

    made_in_line : IsInLine changes old.admitted line made.place
    made_in_line = subst (IsInLine changes old.admitted line) read_old (line_old.members made.first.at at_old)

    made_cost : cost_at changes old.board.products made.place ≤ limit
    made_cost = elim (costs_new made.first.at at_old) as (λ _. cost_at changes old.board.products made.place ≤ limit) [
      | inl nothing ↦ absurd (omega (arith, made.first.waits, ap (λ place. get_or old.left place 0) read_old, nothing))
      | inr cost ↦ omega (arith, made.first.is_first.cost, cost, ap (cost_at changes old.board.products) read_old)
    ]

    made_ready : Contains new.ready made.place
    made_ready = added_there old.ready made.place new.ready made.ready

  ready_new : IsMadeReady line limit old new ⊎ IsLeft line limit old new → All (λ place. place < old.admitted) new.ready
  ready_new (inl made) =
      added_below old.admitted old.ready made.place new.ready made.ready (made_in_line made).admitted_before is.ready
  ready_new (inr left) = subst (All (λ place. place < old.admitted)) (sym left.ready) is.ready

  count_new : length new.lines ≡ length old.lines
  count_new = ap length woken.others ∙ length-set old.lines line (line_in new line)

  pub kept_woken : HasSoundLines changes new
  kept_woken = subst (HasSoundLines changes) (sym woken.same) (record {
    under_way = is.under_way;
    lines = subst (λ n. All (HasLines n) changes) (sym count_new) is.lines;
    ready = ready_new woken.woken;
    each = each_new;
    waiting = λ place lt. waiting_new place (is.waiting place lt);
  })

  -- requests that were ready still are
  ready_kept : (place : ℕ) → Contains old.ready place → IsMadeReady line limit old new ⊎ IsLeft line limit old new
      → Contains new.ready place
  ready_kept place here (inl made) = added_kept old.ready made.place new.ready made.ready place here
  ready_kept place here (inr left) = subst (λ (ready : List ℕ). Contains ready place) (sym left.ready) here

  pub still_ready : (place : ℕ) → Contains old.ready place → Contains new.ready place
  still_ready place here = ready_kept place here woken.woken

  -- at most one request was made ready
  one_more_by : (made : IsMadeReady line limit old new) → IsAdded old.ready made.place new.ready →
      IsOneMore changes line old new ⊎ (length new.ready ≡ length old.ready)
  one_more_by made (inl was) = inr (ap length was.same)
  one_more_by made (inr moved) = inl (record {
    at = made.place;
    admitted_before = (made_in_line made).admitted_before;
    own_line = (made_in_line made).own_line;
    longer = omega (arith, length_permutation (made.place ∷ old.ready) new.ready moved);
  })

  pub one_more_ready : IsOneMore changes line old new ⊎ (length new.ready ≡ length old.ready)
  one_more_ready = elim woken.woken as (λ _. IsOneMore changes line old new ⊎ (length new.ready ≡ length old.ready)) [
    | inl made ↦ one_more_by made made.ready
    | inr left ↦ inr (ap length left.ready)
  ]

  -- each request of the line within the limit is the one that was made ready, or a later one
  module _ (place : ℕ) (some : 0 < get_or old.left place 0) (few : cost_at changes old.board.products place ≤ limit)
      (k : ℕ) (k_within : k < length (line_in old line).places)
      (k_is : get_or (line_in old line).places k 0 ≡ place) where
    cost_there : get_or (line_in new line).costs k 0 ≤ limit
    cost_there = elim (costs_new k k_within) as (λ _. get_or (line_in new line).costs k 0 ≤ limit) [
      | inl nothing ↦ absurd (omega (arith, some, ap (λ p. get_or old.left p 0) k_is, nothing))
      | inr cost ↦ omega (arith, few, cost, ap (cost_at changes old.board.products) k_is)
    ]

    k_costs : k < length (line_in new line).costs
    k_costs = omega (arith, k_within, line_old.lengths, woken.spent.costs)

    not_after : (made : IsMadeReady line limit old new) → made.first.at ≤ k
    not_after made = elim (cases_lt k made.first.at) as (λ _. made.first.at ≤ k) [
      | inl lt ↦ absurd (omega (arith, made.first.is_first.before k (omega arith) lt k_costs, cost_there))
      | inr le ↦ le
    ]

    before_by : (made : IsMadeReady line limit old new) → (made.first.at ≡ k) ⊎ (made.first.at ≡ k → ⊥)
        → made.place ≤ place
    before_by made (inl same) = omega (arith, ap (λ n. get_or (line_in old line).places n 0) same, read_old made, k_is)
    before_by made (inr differ) =
        let less : made.first.at < k = grind (arith, not_after made, differ) in
        omega (arith, line_old.ascending made.first.at k less k_within, read_old made, k_is)

    covered_by : IsMadeReady line limit old new ⊎ IsLeft line limit old new
        → IsCovered changes line limit (record old { ready = new.ready; lines = new.lines }) place
    covered_by (inl made) = record {
      at = made.place;
      is_ready = made_ready made;
      own_line = (made_in_line made).own_line;
      admitted_before = (made_in_line made).admitted_before;
      before = before_by made (cases_eq made.first.at k);
      waits = made.first.waits;
      cost = made_cost made;
    }
    covered_by (inr left) = absurd (omega (arith, left.none k 0 k_costs, cost_there))

  by_waiting : (place : ℕ) → line_at changes place ≡ line → 0 < get_or old.left place 0
      → cost_at changes old.board.products place ≤ limit → IsWaiting changes old place
      → IsCovered changes line limit (record old { ready = new.ready; lines = new.lines }) place
  by_waiting place own some few (inl nothing) = absurd (omega (arith, some, nothing))
  by_waiting place own some few (inr (k, lt, at)) =
      let in_line : k < length (line_in old line).places = subst (λ l. k < length (line_in old l).places) own lt in
      let read : get_or (line_in old line).places k place ≡ place =
      subst (λ l. get_or (line_in old l).places k place ≡ place) own at in
      covered_by place some few k in_line
      (get_or_default (line_in old line).places k 0 place in_line ∙ read) woken.woken

  pub covered : (place : ℕ) → place < old.admitted → line_at changes place ≡ line → 0 < get_or old.left place 0 →
      cost_at changes old.board.products place ≤ limit → IsCovered changes line limit new place
  covered place lt own some few = subst (λ (queue : Queue). IsCovered changes line limit queue place) (sym woken.same)
      (by_waiting place own some few (is.waiting place lt))
