-- The invariants of the queue hold if ready requests are reordered, and after a test or an admission.
use Rattle.std.proofs.Common.{◌≡◌, ℕ, ◌+◌, ◌<◌, ◌⊎◌, List, [], ◌∷◌, refl, ap, sym, subst, ◌∙◌, inl, inr, arith, get_or}
use Rattle.std.proofs.Common.{set, length, All}
use Rattle.std.specs.List.{Contains}
use Rattle.std.specs.List.Sorted.{IsPermutation}
use Rattle.std.proofs.Math.Logic.{⊎_map}
use Rattle.std.proofs.lemmas.Bool.{cases_lt}
use Rattle.std.proofs.lemmas.List.{get_or-set_same, get_or_append_left, get_or_at, length-set, length_push}
use Rattle.std.proofs.lemmas.List.Sorted.{All-permutation, Contains-permutation}
use Rattle.std.proofs.lemmas.List.Elements.{All-weaker, All-tail, Contains-append_left, Contains-push}
use Rattle.clock_terms.specs.declared.change.Change.{Change}
use Rattle.clock_terms.specs.declared.change.Kind.{Kind}
use Rattle.clock_terms.specs.declared.change.Kind.TheVariants.{Increase, Reduction}
use Rattle.clock_processor.specs.Board.{BoardFields}
use Rattle.clock_processor.specs.Settling.{no_change}
use Rattle.clock_processor.specs.inside.UnderWay.{IsUnderWay}
use Rattle.clock_processor.proofs.Cases.{set_cases}
use Rattle.clock_queue.specs.declared.queue.Queue.{Queue}
use Rattle.clock_queue.specs.inside.Lines.{line_by, HasLines, LineFields, empty_line, product_line, bidder_line}
use Rattle.clock_queue.specs.inside.Lines.{with_waiting}
use Rattle.clock_queue.specs.inside.Queue.{HasSoundLines, IsLine, IsInLine, IsBehind, IsTracking, after_test, line_at}
use Rattle.clock_queue.specs.inside.Queue.{line_in, cost_at, room_in}
use Rattle.clock_queue.proofs.Members.{Contains-cons_cases}

line_within : (kind : Kind) (b p n : ℕ) → product_line p < n → bidder_line b < n → line_by kind b p < n
line_within kind b p n product bidder =
    elim kind as (λ (k : Kind). line_by k b p < n) [ Increase ↦ bidder | Reduction ↦ product ]

module _ (changes : List Change) where
  -- tracking holds if more requests are ready
  pub tracked_more : (queue : Queue) (ready more : List ℕ) → ((place : ℕ) → Contains ready place → Contains more place)
      → IsTracking changes queue ready → IsTracking changes queue more
  tracked_more queue ready more each tracked place within =
      ⊎_map (λ none. none) (λ (behind : IsBehind changes queue ready place). record {
        at = behind.at;
        is_ready = each behind.at behind.is_ready;
        own_line = behind.own_line;
        before = behind.before;
        room = behind.room;
      }) (tracked place within)

  -- tracking holds without the first ready request, if it has no room
  pub tracked_rest : (queue : Queue) (first : ℕ) (ready : List ℕ) → room_in changes queue first ≡ 0
      → IsTracking changes queue (first ∷ ready) → IsTracking changes queue ready
  tracked_rest queue first ready no_room tracked place within =
      ⊎_map (λ none. none) (λ (behind : IsBehind changes queue (first ∷ ready) place). record {
        at = behind.at;
        is_ready = elim (Contains-cons_cases first ready behind.at behind.is_ready) as (λ _. Contains ready behind.at) [
          | inl same ↦ absurd (omega (arith, behind.room, no_room, ap (room_in changes queue) same))
          | inr rest ↦ rest
        ];
        own_line = behind.own_line;
        before = behind.before;
        room = behind.room;
      }) (tracked place within)

  -- tracking does not depend on the tests made or the list of ready requests
  pub tracked_as : (queue : Queue) (board : BoardFields) (admitted : ℕ) (now : List ℕ) (lines : List LineFields)
      (ready : List ℕ) → board ≡ record queue.board { tests = board.tests }
      → ((place : ℕ) → place < admitted → (room_in changes queue place ≡ 0) ⊎ IsBehind changes queue ready place)
      → IsTracking changes (record queue { board = board; admitted = admitted; ready = now; lines = lines }) ready
  tracked_as queue board admitted now lines ready board_is tracked place within =
      let same : (p : ℕ)
      → room_in changes (record queue { board = board; admitted = admitted; ready = now; lines = lines }) p
      ≡ room_in changes queue p = λ p. ap (λ (b : BoardFields). room_in changes
      (record queue { board = b; admitted = admitted; ready = now; lines = lines }) p) board_is in
      ⊎_map (λ none. same place ∙ none) (λ (behind : IsBehind changes queue ready place). record {
        at = behind.at;
        is_ready = behind.is_ready;
        own_line = behind.own_line;
        before = behind.before;
        room = omega (arith, behind.room, same behind.at);
      }) (tracked place within)

  -- the first ready request is removed
  pub kept_popped : (queue : Queue) (first : ℕ) (ready : List ℕ) → HasSoundLines changes queue
      → IsPermutation queue.ready (first ∷ ready) → HasSoundLines changes (record queue { ready = ready })
  kept_popped queue first ready is moved = record {
    under_way = is.under_way;
    lines = is.lines;
    ready = All-tail (λ place. place < queue.admitted) first ready
        (All-permutation (λ place. place < queue.admitted) queue.ready (first ∷ ready) moved is.ready);
    each = is.each;
    waiting = is.waiting;
  }

  pub tracked_popped : (queue : Queue) (first : ℕ) (ready : List ℕ) → IsTracking changes queue queue.ready
      → IsPermutation queue.ready (first ∷ ready) → IsTracking changes (record queue { ready = ready }) (first ∷ ready)
  tracked_popped queue first ready tracked moved =
      tracked_as queue queue.board queue.admitted ready queue.lines (first ∷ ready) refl (tracked_more queue queue.ready
      (first ∷ ready) (λ place here. Contains-permutation queue.ready (first ∷ ready) place moved here) tracked)

  -- after one more test
  pub kept_tested : (queue : Queue) → HasSoundLines changes queue → HasSoundLines changes (after_test queue)
  kept_tested queue is = record {
    under_way = record {
      admitted_within = is.under_way.admitted_within;
      lengths = is.under_way.lengths;
      requests = is.under_way.requests;
      caps = is.under_way.caps;
      countable = is.under_way.countable;
    };
    lines = is.lines;
    ready = is.ready;
    each = is.each;
    waiting = is.waiting;
  }

  pub tracked_tested : (queue : Queue) (ready : List ℕ) → IsTracking changes queue ready
      → IsTracking changes (after_test queue) ready
  tracked_tested queue ready tracked =
      tracked_as queue (after_test queue).board queue.admitted queue.ready queue.lines ready refl tracked

  -- the next request is admitted, without room
  pub tracked_next : (queue : Queue) (lines : List LineFields) → IsTracking changes queue queue.ready
      → room_in changes queue queue.admitted ≡ 0
      → IsTracking changes (record queue { admitted = queue.admitted + 1; lines = lines }) queue.ready
  tracked_next queue lines tracked no_room = tracked_as queue queue.board
      (queue.admitted + 1) queue.ready lines queue.ready refl (λ place within. elim (cases_lt place queue.admitted) as
      (λ _. (room_in changes queue place ≡ 0) ⊎ IsBehind changes queue queue.ready place) [
        | inl before ↦ tracked place before
        | inr at ↦ (let same : place ≡ queue.admitted = omega (arith, within, at) in
            inl (ap (room_in changes queue) same ∙ no_room))
      ])

  module _ (queue : Queue) (is : HasSoundLines changes queue) (more : queue.admitted < length changes) where
    under_way_next : IsUnderWay queue.board changes queue.left (queue.admitted + 1)
    under_way_next = record {
      admitted_within = omega (arith, more);
      lengths = is.under_way.lengths;
      requests = is.under_way.requests;
      caps = is.under_way.caps;
      countable = is.under_way.countable;
    }

    ready_next : All (λ place. place < queue.admitted + 1) queue.ready
    ready_next = All-weaker (λ place. place < queue.admitted) (λ place. place < queue.admitted + 1)
        (λ place lt. omega (arith, lt)) queue.ready is.ready

    member_next : (line place : ℕ) → IsInLine changes queue.admitted line place
        → IsInLine changes (queue.admitted + 1) line place
    member_next line place member =
        record { admitted_before = omega (arith, member.admitted_before); own_line = member.own_line }

    each_next : (line : ℕ)
        → IsLine changes queue.board.products queue.left (queue.admitted + 1) line (line_in queue line)
    each_next line = record {
      lengths = (is.each line).lengths;
      members = λ at lt. member_next line (get_or (line_in queue line).places at 0) ((is.each line).members at lt);
      ascending = (is.each line).ascending;
      costs = (is.each line).costs;
    }

    -- if nothing of it is left, it does not wait
    pub kept_used : get_or queue.left queue.admitted 0 ≡ 0
        → HasSoundLines changes (record queue { admitted = queue.admitted + 1 })
    kept_used nothing = record {
      under_way = under_way_next;
      lines = is.lines;
      ready = ready_next;
      each = each_next;
      waiting = λ place within. elim (cases_lt place queue.admitted) as (λ _. (get_or queue.left place 0 ≡ 0) ⊎ Contains
          (line_in queue (line_at changes place)).places place) [
            | inl before ↦ is.waiting place before
            | inr at ↦ (let same : place ≡ queue.admitted = omega (arith, within, at) in
                inl (ap (λ n. get_or queue.left n 0) same ∙ nothing))
          ];
    }

    -- if blocks of it are left, it waits at the end of its line
    abbrev own : ℕ
    own = line_at changes queue.admitted

    abbrev longer : LineFields
    longer = with_waiting (line_in queue own) queue.admitted (cost_at changes queue.board.products queue.admitted)

    abbrev pub added : List LineFields
    added = set queue.lines own longer

    pub own_in : own < length queue.lines
    own_in =
        let change : Change = get_or changes queue.admitted no_change in
        let lines : HasLines (length queue.lines) change = is.lines queue.admitted no_change more in
        line_within change.kind change.bidder change.product (length queue.lines) lines.product lines.bidder

    at_own : get_or added own empty_line ≡ longer
    at_own = get_or-set_same queue.lines own longer empty_line own_in

    old_at : (at : ℕ) → at < length (line_in queue own).places
        → get_or longer.places at 0 ≡ get_or (line_in queue own).places at 0
    old_at at lt = get_or_append_left (line_in queue own).places (queue.admitted ∷ []) 0 at lt

    new_at : (at : ℕ) → length (line_in queue own).places ≡ at → get_or longer.places at 0 ≡ queue.admitted
    new_at at end = get_or_at (line_in queue own).places queue.admitted [] 0 at end

    long : length longer.places ≡ length (line_in queue own).places + 1
    long = length_push (line_in queue own).places queue.admitted

    members_longer : (at : ℕ) → at < length longer.places
        → IsInLine changes (queue.admitted + 1) own (get_or longer.places at 0)
    members_longer at lt = elim (cases_lt at (length (line_in queue own).places)) as
        (λ _. IsInLine changes (queue.admitted + 1) own (get_or longer.places at 0)) [
          | inl before ↦ subst (IsInLine changes (queue.admitted + 1) own) (sym (old_at at before))
              (member_next own (get_or (line_in queue own).places at 0) ((is.each own).members at before))
          | inr end ↦ subst (IsInLine changes (queue.admitted + 1) own) (sym (new_at at (omega (arith, lt, long, end))))
              (record { admitted_before = omega arith; own_line = refl })
        ]

    ascending_longer : (one other : ℕ) → one < other → other < length longer.places
        → get_or longer.places one 0 < get_or longer.places other 0
    ascending_longer one other less lt = elim (cases_lt other (length (line_in queue own).places)) as
        (λ _. get_or longer.places one 0 < get_or longer.places other 0) [
          | inl before ↦ omega (
            arith,
            old_at one (omega (arith, less, before)),
            old_at other before,
            (is.each own).ascending one other less before,
          )
          | inr end ↦
              let one_in : one < length (line_in queue own).places = omega (arith, less, lt, long) in
              let member : IsInLine changes queue.admitted own (get_or (line_in queue own).places one 0) =
              (is.each own).members one one_in in
              omega (arith, old_at one one_in, new_at other (omega (arith, lt, long, end)), member.admitted_before)
        ]

    old_cost : (at : ℕ) → at < length (line_in queue own).places
        → get_or longer.costs at 0 ≡ get_or (line_in queue own).costs at 0
    old_cost at lt = get_or_append_left (line_in queue own).costs
        (cost_at changes queue.board.products queue.admitted ∷ []) 0 at (omega (arith, lt, (is.each own).lengths))

    new_cost : (at : ℕ) → length (line_in queue own).places ≡ at
        → get_or longer.costs at 0 ≡ cost_at changes queue.board.products queue.admitted
    new_cost at end = get_or_at (line_in queue own).costs (cost_at changes queue.board.products queue.admitted) [] 0 at
        ((is.each own).lengths ∙ end)

    abbrev HasCost : ℕ → ℕ → Type 0
    HasCost place cost = (get_or queue.left place 0 ≡ 0) ⊎ (cost ≡ cost_at changes queue.board.products place)

    costs_longer : (at : ℕ) → at < length longer.places → HasCost (get_or longer.places at 0) (get_or longer.costs at 0)
    costs_longer at lt = elim (cases_lt at (length (line_in queue own).places)) as
        (λ _. HasCost (get_or longer.places at 0) (get_or longer.costs at 0)) [
          | inl before ↦ subst (λ place. HasCost place (get_or longer.costs at 0)) (sym (old_at at before))
              (subst (HasCost (get_or (line_in queue own).places at 0)) (sym (old_cost at before))
              ((is.each own).costs at before))
          | inr end ↦
              let last : length (line_in queue own).places ≡ at = omega (arith, lt, long, end) in
              subst (λ place. HasCost place (get_or longer.costs at 0)) (sym (new_at at last)) (inr (new_cost at last))
        ]

    line_longer : IsLine changes queue.board.products queue.left (queue.admitted + 1) own longer
    line_longer = record {
      lengths = length_push (line_in queue own).costs (cost_at changes queue.board.products queue.admitted)
          ∙ ap (λ n. n + 1) (is.each own).lengths ∙ sym long;
      members = members_longer;
      ascending = ascending_longer;
      costs = costs_longer;
    }

    each_added : (line : ℕ)
        → IsLine changes queue.board.products queue.left (queue.admitted + 1) line (get_or added line empty_line)
    each_added = set_cases (IsLine changes queue.board.products queue.left (queue.admitted + 1)) queue.lines own longer
        empty_line own_in line_longer (λ line _. each_next line)

    -- each request that was in a line is still there
    still_in : (place line : ℕ) → Contains (line_in queue line).places place
        → Contains (get_or added line empty_line).places place
    still_in place = set_cases (λ line (held : LineFields). Contains (line_in queue line).places place
        → Contains held.places place) queue.lines own longer empty_line own_in
        (Contains-append_left (line_in queue own).places (queue.admitted ∷ []) place) (λ line _ here. here)

    now_in : Contains (get_or added own empty_line).places queue.admitted
    now_in = subst (λ (held : LineFields). Contains held.places queue.admitted) (sym at_own)
        (Contains-push (line_in queue own).places queue.admitted)

    pub kept_added : HasSoundLines changes (record queue { admitted = queue.admitted + 1; lines = added })
    kept_added = record {
      under_way = under_way_next;
      lines = subst (λ n. All (HasLines n) changes) (sym (length-set queue.lines own longer)) is.lines;
      ready = ready_next;
      each = each_added;
      waiting = λ place within. elim (cases_lt place queue.admitted) as (λ _. (get_or queue.left place 0 ≡ 0) ⊎ Contains
          (get_or added (line_at changes place) empty_line).places place) [
            | inl before ↦ ⊎_map (λ nothing. nothing) (still_in place (line_at changes place)) (is.waiting place before)
            | inr at ↦ (let same : queue.admitted ≡ place = omega (arith, within, at) in
                inr (subst (λ n. Contains (get_or added (line_at changes n) empty_line).places n) same now_in))
          ];
    }
