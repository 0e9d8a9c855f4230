-- The invariants hold after the next request is tested and admitted, and after a ready one is tested.
use Rattle.std.proofs.Common.{◌≡◌, ℕ, ◌+◌, ◌<◌, ◌≤◌, ◌⊎◌, List, [], ◌∷◌, ap, sym, subst, ◌∙◌, inl, inr, arith, length}
use Rattle.std.proofs.Common.{All}
use Rattle.std.specs.List.Sorted.{IsPermutation}
use Rattle.std.proofs.lemmas.List.Sorted.{All-permutation, length_permutation}
use Rattle.std.proofs.lemmas.List.Elements.{All-head}
use Rattle.clock_terms.specs.declared.change.Change.{Change}
use Rattle.clock_processor.specs.Settling.{Progress, Reaches}
use Rattle.clock_queue.specs.declared.queue.Queue.{Queue}
use Rattle.clock_queue.specs.inside.Lines.{LineFields}
use Rattle.clock_queue.specs.inside.Queue.{GoesOn, HadNoRoom, HadRoom, HasSoundLines, IsTested, IsTracking}
use Rattle.clock_queue.specs.inside.Queue.{StaysWithinTests, progress, room_in, work}
use Rattle.clock_queue.proofs.Admits.{kept_popped, tracked_popped}
use Rattle.clock_queue.proofs.Steps.{fresh_reaches, popped_reaches}

module _ (changes : List Change) where
  -- a test admits no request
  admitted_by : (place : ℕ) (old new : Queue) → HadNoRoom changes place old new ⊎ HadRoom changes place old new
      → new.admitted ≡ old.admitted
  admitted_by place old new (inl nothing) = ap (λ (on : Progress). on.admitted) nothing.same
  admitted_by place old new (inr applied) = ap (λ (on : Progress). on.admitted) applied.applied

  pub admitted_same : (place : ℕ) (old new : Queue) → IsTested changes place old new → new.admitted ≡ old.admitted
  admitted_same place old new tested = admitted_by place old new tested.step

  -- the tested request is still the next to be admitted
  pub next_has_none : (old new : Queue) → IsTested changes old.admitted old new → room_in changes new new.admitted ≡ 0
  next_has_none old new tested = ap (room_in changes new) (admitted_same old.admitted old new tested) ∙ tested.no_room

  pub next_is_more : (old new : Queue) → old.admitted < length changes → IsTested changes old.admitted old new
      → new.admitted < length changes
  next_is_more old new more tested = omega (arith, more, admitted_same old.admitted old new tested)

  -- after the next request is tested and admitted
  module _ (old between : Queue) (lines : List LineFields) (is : HasSoundLines changes old)
      (tracked : IsTracking changes old old.ready) (counts : StaysWithinTests changes old) (none : old.ready ≡ [])
      (more : old.admitted < length changes) (tested : IsTested changes old.admitted old between) where
    same_admitted : between.admitted ≡ old.admitted
    same_admitted = admitted_same old.admitted old between tested

    goes_on_admitted : HasSoundLines changes (record between { admitted = between.admitted + 1; lines = lines }) →
        IsTracking changes (record between { admitted = between.admitted + 1; lines = lines }) between.ready →
        GoesOn changes old (record between { admitted = between.admitted + 1; lines = lines })
    goes_on_admitted in_order tracked_new = record {
      in_order = in_order;
      tracked = tracked_new;
      counts = omega (arith, counts, tested.counts, same_admitted);
      terms = record { products = tested.terms.products; eligibilities = tested.terms.eligibilities };
      blocks = tested.blocks;
      reached = subst (λ (n : ℕ). Reaches old.board.products old.board.eligibilities changes (progress old)
          (progress (record between { admitted = n + 1 }))) (sym same_admitted)
          (fresh_reaches changes old between is tracked none more tested.step);
    }

    pub goes_on_first : (new : Queue) → new ≡ record between { admitted = between.admitted + 1; lines = lines }
        → HasSoundLines changes new → IsTracking changes new new.ready → GoesOn changes old new
    goes_on_first new same in_order tracked_new = subst (GoesOn changes old) (sym same)
        (goes_on_admitted (subst (HasSoundLines changes) same in_order)
        (subst (λ (queue : Queue). IsTracking changes queue queue.ready) same tracked_new))

  -- after the first ready request is removed
  module _ (old : Queue) (first : ℕ) (ready : List ℕ) (is : HasSoundLines changes old)
      (moved : IsPermutation old.ready (first ∷ ready)) where
    pub popped_before : first < old.admitted
    popped_before = All-head (λ place. place < old.admitted) first ready
        (All-permutation (λ place. place < old.admitted) old.ready (first ∷ ready) moved is.ready)

    pub popped_within : first < length changes
    popped_within = omega (arith, popped_before, is.under_way.admitted_within)

    fewer : length old.ready ≡ length ready + 1
    fewer = omega (arith, length_permutation old.ready (first ∷ ready) moved)

    -- after it is tested
    pub goes_on_popped : (new : Queue) → IsTracking changes old old.ready → StaysWithinTests changes old → All (λ other.
        first ≤ other) ready → IsTested changes first (record old { ready = ready }) new → GoesOn changes old new
    goes_on_popped new tracked counts least tested = record {
      in_order = tested.in_order;
      tracked = tested.tracked;
      counts =
          omega (arith, counts, tested.counts, fewer, admitted_same first (record old { ready = ready }) new tested);
      terms = record { products = tested.terms.products; eligibilities = tested.terms.eligibilities };
      blocks = tested.blocks;
      reached = popped_reaches changes (record old { ready = ready }) new first ready (kept_popped changes old first
          ready is moved) (tracked_popped changes old first ready tracked moved) least popped_before tested.step;
    }

    pub less_popped : (new : Queue) → IsTested changes first (record old { ready = ready }) new → work new < work old
    less_popped new tested = omega (arith, tested.less, fewer)
