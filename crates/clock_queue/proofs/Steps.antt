-- The first ready request is the first admitted one with room, if it has room.
use Rattle.std.proofs.Common.{◌≡◌, ℕ, zero, suc, ◌+◌, ◌<◌, ◌≤◌, ◌⊎◌, List, [], ◌∷◌, Option, Some, None, cond, refl, ap}
use Rattle.std.proofs.Common.{sym, subst, ◌∙◌, inl, inr, arith, length, All, lt-ltb}
use Rattle.std.specs.List.{Contains}
use Rattle.std.proofs.lemmas.Bool.{le-ltb}
use Rattle.std.proofs.lemmas.List.Elements.{All-contains}
use Rattle.clock_terms.specs.declared.setup.Product.{Product}
use Rattle.clock_terms.specs.declared.change.Change.{Change}
use Rattle.clock_processor.specs.Settling.{Progress, Reaches, next, next_by, after_steps, first_with_room}
use Rattle.clock_processor.specs.Settling.{with_admission, HasEnded}
use Rattle.clock_processor.proofs.End.{step_reaches}
use Rattle.clock_processor.proofs.FirstRoom.{first_has_room, none_has_room}
use Rattle.clock_queue.specs.declared.queue.Queue.{Queue}
use Rattle.clock_queue.specs.inside.Queue.{HasSoundLines, IsTracking, HadRoom, HadNoRoom, SameTerms, GoesOn, progress}
use Rattle.clock_queue.specs.inside.Queue.{room_in, progress_with}
use Rattle.clock_queue.proofs.Members.{Contains-cons_cases, none_in_nil}

module _ (changes : List Change) (queue : Queue) where
  -- if no request is ready, no admitted request has room
  pub none_elsewhere : IsTracking changes queue queue.ready → queue.ready ≡ [] → (place : ℕ) → place < queue.admitted
      → room_in changes queue place ≡ 0
  none_elsewhere tracked none place within = elim (tracked place within) as (λ _. room_in changes queue place ≡ 0) [
    | inl no_room ↦ no_room
    | inr behind ↦
        absurd (none_in_nil behind.at (subst (λ (list : List ℕ). Contains list behind.at) none behind.is_ready))
  ]

  -- no request before the first ready one has room
  none_before : (first : ℕ) (ready : List ℕ) → IsTracking changes queue (first ∷ ready) → All (λ other. first
      ≤ other) ready → first < queue.admitted → (place : ℕ) → place < first → room_in changes queue place ≡ 0
  none_before first ready tracked least admitted place lt =
      elim (tracked place (omega (arith, lt, admitted))) as (λ _. room_in changes queue place ≡ 0) [
        | inl no_room ↦ no_room
        | inr behind ↦
            elim (Contains-cons_cases first ready behind.at behind.is_ready) as (λ _. room_in changes queue place ≡ 0) [
              | inl same ↦ absurd (omega (arith, same, lt, behind.before))
              | inr later ↦
                  (let most : first ≤ behind.at = All-contains (λ other. first ≤ other) ready behind.at least later in
                  absurd (omega (arith, most, lt, behind.before)))
            ]
      ]

  -- the next step applies an admitted request with room, if no earlier one has room
  next_is : HasSoundLines changes queue → (first : ℕ) → first < queue.admitted
      → ((place : ℕ) → place < first → room_in changes queue place ≡ 0) → 0 < room_in changes queue first → next
      queue.board.products queue.board.eligibilities changes (progress queue) ≡ Some (progress_with changes queue first)
  next_is is first admitted before some =
      ap (next_by queue.board.products queue.board.eligibilities changes (progress queue)) (first_has_room queue.board
      changes queue.left queue.admitted is.under_way.admitted_within is.under_way.lengths first admitted before some)

  none_ready : HasSoundLines changes queue → IsTracking changes queue queue.ready → queue.ready ≡ [] →
      first_with_room queue.board.products queue.board.eligibilities changes (progress queue) ≡ None
  none_ready is tracked none = none_has_room queue.board changes queue.left queue.admitted is.under_way.admitted_within
      is.under_way.lengths (none_elsewhere tracked none)

  -- if no request is ready, the next step admits a request
  admission_is_next : HasSoundLines changes queue → IsTracking changes queue queue.ready → queue.ready ≡ []
      → queue.admitted < length changes → next queue.board.products queue.board.eligibilities changes (progress queue)
      ≡ Some (with_admission queue.board.products queue.board.eligibilities changes (progress queue))
  admission_is_next is tracked none more = ap (next_by queue.board.products queue.board.eligibilities changes
      (progress queue)) (none_ready is tracked none) ∙ ap (λ b. cond b (Some (with_admission queue.board.products
      queue.board.eligibilities changes (progress queue))) None) (lt-ltb queue.admitted (length changes) more)

  -- if all requests are admitted, bid processing has ended
  pub ends : HasSoundLines changes queue → IsTracking changes queue queue.ready → queue.ready ≡ [] → queue.admitted
      ≡ length changes → HasEnded queue.board.products queue.board.eligibilities changes (progress queue)
  ends is tracked none all =
      ap (next_by queue.board.products queue.board.eligibilities changes (progress queue)) (none_ready is tracked none)
      ∙ ap (λ b. cond b (Some (with_admission queue.board.products queue.board.eligibilities changes (progress queue)))
      None) (le-ltb queue.admitted (length changes) (omega (arith, all)))

  -- the queue after the next request is admitted
  abbrev admitting : Queue
  admitting = record queue { admitted = queue.admitted + 1 }

  admitting_kept : HasSoundLines changes queue → queue.admitted < length changes → (place : ℕ)
      → place < queue.admitted + 1 → ((before : ℕ) → before < place → room_in changes queue before ≡ 0)
      → 0 < room_in changes queue place → next queue.board.products queue.board.eligibilities changes
      (progress admitting) ≡ Some (progress_with changes admitting place)
  admitting_kept is more place within before some = ap (next_by queue.board.products queue.board.eligibilities changes
      (progress admitting)) (first_has_room queue.board changes queue.left (queue.admitted + 1)
      (omega (arith, more)) is.under_way.lengths place within before some)

  to_admitting : HasSoundLines changes queue → IsTracking changes queue queue.ready → queue.ready ≡ []
      → queue.admitted < length changes
      → Reaches queue.board.products queue.board.eligibilities changes (progress queue) (progress admitting)
  to_admitting is tracked none more = step_reaches queue.board.products queue.board.eligibilities changes
      (progress queue) (progress queue) (progress admitting) (0, refl) (admission_is_next is tracked none more)

  -- the steps that a test and admission of the next request take
  pub fresh_reaches : (new : Queue) → HasSoundLines changes queue → IsTracking changes queue queue.ready
      → queue.ready ≡ [] → queue.admitted < length changes → HadNoRoom changes queue.admitted queue new
      ⊎ HadRoom changes queue.admitted queue new → Reaches queue.board.products queue.board.eligibilities changes
      (progress queue) (progress (record new { admitted = queue.admitted + 1 }))
  fresh_reaches new is tracked none more (inl nothing) =
      subst (Reaches queue.board.products queue.board.eligibilities changes (progress queue))
      (ap (λ (on : Progress). record on { admitted = queue.admitted + 1 }) (sym nothing.same))
      (to_admitting is tracked none more)
  fresh_reaches new is tracked none more (inr applied) =
      subst (Reaches queue.board.products queue.board.eligibilities changes (progress queue))
      (ap (λ (on : Progress). record on { admitted = queue.admitted + 1 }) (sym applied.applied))
      (step_reaches queue.board.products queue.board.eligibilities changes (progress queue) (progress admitting)
      (progress_with changes admitting queue.admitted) (to_admitting is tracked none more)
      (admitting_kept is more queue.admitted (omega arith) (none_elsewhere tracked none) applied.some))

  -- the step that a test of the first ready request takes
  pub popped_reaches : (new : Queue) (first : ℕ) (ready : List ℕ) → HasSoundLines changes queue
      → IsTracking changes queue (first ∷ ready) → All (λ other. first ≤ other) ready → first < queue.admitted
      → HadNoRoom changes first queue new ⊎ HadRoom changes first queue new
      → Reaches queue.board.products queue.board.eligibilities changes (progress queue) (progress new)
  popped_reaches new first ready is tracked least admitted (inl nothing) = (0, sym nothing.same)
  popped_reaches new first ready is tracked least admitted (inr applied) = subst (Reaches queue.board.products
      queue.board.eligibilities changes (progress queue)) (sym applied.applied) (step_reaches queue.board.products
      queue.board.eligibilities changes (progress queue) (progress queue) (progress_with changes queue first) (0, refl)
      (next_is is first admitted (none_before first ready tracked least admitted) applied.some))

-- steps from a state that is reached reach further states
module _ (products : List Product) (eligibilities : List ℕ) (changes : List Change) where
  further_by : (n : ℕ) (s t u : Progress) (o : Option Progress) → ((v : Progress) → Reaches products eligibilities
      changes s v → after_steps products eligibilities changes n v ≡ u → Reaches products eligibilities changes s u)
      → Reaches products eligibilities changes s t → next products eligibilities changes t ≡ o
      → elim o [ None ↦ t | Some v ↦ after_steps products eligibilities changes n v ] ≡ u
      → Reaches products eligibilities changes s u
  further_by n s t u None later reached is at = subst (Reaches products eligibilities changes s) at reached
  further_by n s t u (Some v) later reached is at =
      later v (step_reaches products eligibilities changes s t v reached is) at

  further : (n : ℕ) (s t u : Progress) → Reaches products eligibilities changes s t
      → after_steps products eligibilities changes n t ≡ u → Reaches products eligibilities changes s u
  further zero s t u reached at = subst (Reaches products eligibilities changes s) at reached
  further (suc n) s t u reached at =
      further_by n s t u (next products eligibilities changes t) (λ v. further n s v u) reached refl at

  pub reaches_further : (s t u : Progress) → Reaches products eligibilities changes s t
      → Reaches products eligibilities changes t u → Reaches products eligibilities changes s u
  reaches_further s t u to_t (n, at) = further n s t u to_t at

-- steps compose, if products and eligibilities are unchanged
pub reaches_from : (changes : List Change) (products : List Product) (eligibilities : List ℕ) (start : Progress)
    (old new : Queue) → old.board.products ≡ products → old.board.eligibilities ≡ eligibilities
    → Reaches products eligibilities changes start (progress old) → Reaches old.board.products old.board.eligibilities
    changes (progress old) (progress new) → Reaches products eligibilities changes start (progress new)
reaches_from changes products eligibilities start old new same_products same_eligibilities to_old to_new =
    reaches_further products eligibilities changes start (progress old) (progress new) to_old (subst (λ products.
    Reaches products eligibilities changes (progress old) (progress new)) same_products (subst (λ eligibilities.
    Reaches old.board.products eligibilities changes (progress old) (progress new)) same_eligibilities to_new))

pub reaches_on : (changes : List Change) (start old new : Queue) → SameTerms start old
    → Reaches start.board.products start.board.eligibilities changes (progress start) (progress old)
    → Reaches old.board.products old.board.eligibilities changes (progress old) (progress new)
    → Reaches start.board.products start.board.eligibilities changes (progress start) (progress new)
reaches_on changes start old new same to_old to_new = reaches_from changes start.board.products
    start.board.eligibilities (progress start) old new same.products same.eligibilities to_old to_new

-- GoesOn is transitive
pub goes_further : (changes : List Change) (start old new : Queue) → GoesOn changes start old → GoesOn changes old new
    → GoesOn changes start new
goes_further changes start old new to_old to_new = record {
  in_order = to_new.in_order;
  tracked = to_new.tracked;
  counts = to_new.counts;
  terms = record {
    products = to_new.terms.products ∙ to_old.terms.products;
    eligibilities = to_new.terms.eligibilities ∙ to_old.terms.eligibilities;
  };
  blocks = omega (arith, to_old.blocks, to_new.blocks);
  reached = reaches_on changes start old new to_old.terms to_old.reached to_new.reached;
}
