-- The invariants of the queue hold after an application that makes ready the first requests that may have room now.
use Rattle.std.proofs.Common.{◌≡◌, ℕ, ◌+◌, ◌-◌, ◌*◌, ◌<◌, ◌≤◌, ◌⊎◌, min, List, [], ◌∷◌, refl, ap, sym, subst, ◌∙◌, inl}
use Rattle.std.proofs.Common.{inr, arith, get_or, set, length, sum, All}
use Rattle.std.specs.List.{Contains}
use Rattle.std.proofs.Math.Logic.{⊎_map}
use Rattle.std.proofs.lemmas.Bool.{cases_eq, cases_lt}
use Rattle.std.proofs.lemmas.List.{get_or-set_same, get_or-set_other, get_or_default}
use Rattle.clock_terms.specs.Limits.{IsRow, IsProduct, units_of, cap_of, no_product, most_units}
use Rattle.clock_terms.specs.Demands.{row_of, demand_at, with_demand, changed_demand}
use Rattle.clock_terms.specs.declared.change.Change.{Change}
use Rattle.clock_terms.specs.declared.change.Kind.{Kind}
use Rattle.clock_terms.specs.declared.change.Kind.TheVariants.{Increase, Reduction}
use Rattle.clock_processor.specs.Room.{room_of, unused_units}
use Rattle.clock_processor.specs.Board.{IsBoard, MayApply, StaysWithin, applied_to, one_more}
use Rattle.clock_processor.specs.Requests.{IsRequest}
use Rattle.clock_processor.specs.Settling.{no_change, with_application}
use Rattle.clock_processor.proofs.Cases.{set_cases}
use Rattle.clock_processor.proofs.Apply.{may_apply, sum_after, under_way_applied}
use Rattle.clock_queue.specs.declared.queue.Queue.{Queue}
use Rattle.clock_queue.specs.inside.Lines.{cost_by, line_by, product_line, bidder_line, HasLines}
use Rattle.clock_queue.specs.inside.Queue.{HasSoundLines, IsInLine, IsBehind, IsTracking, IsAppliedWhole, HasWoken}
use Rattle.clock_queue.specs.inside.Queue.{HasWokenProduct, CostsMore, TakesBlocks}
use Rattle.clock_queue.specs.inside.Queue.{line_at, line_in, cost_at, room_in, progress, work}
use Rattle.clock_queue.specs.Bound.{most_woken}
use Rattle.clock_queue.proofs.Members.{Contains-cons_cases}
use Rattle.clock_queue.proofs.Counts.{some_of_one, two_of_one, own_by}
use Rattle.clock_queue.proofs.Rooms.{room_same, room_used, free, room_together, within_unused, room_within}
use Rattle.clock_queue.proofs.Wakes.{IsCovered, IsOneMore, kept_woken, still_ready, one_more_ready, covered}

held_by : (kind : Kind) (cap demand amount : ℕ) → StaysWithin kind cap demand amount
    → kind ≡ Reduction → amount ≤ demand
held_by Increase cap demand amount stays is = cc
held_by Reduction cap demand amount stays is = stays

cost_within : (kind : Kind) (units most : ℕ) → units ≤ most → cost_by kind units ≤ most
cost_within Increase units most within = within
cost_within Reduction units most within = omega arith

none_or_some : (n : ℕ) → (n ≡ 0) ⊎ (0 < n)
none_or_some n =
    elim (cases_lt 0 n) as (λ _. (n ≡ 0) ⊎ (0 < n)) [ inl some ↦ inr some | inr none ↦ inl (omega (arith, none)) ]

-- the indices in a line are those of requests
pub places_within : (changes : List Change) (queue : Queue) → HasSoundLines changes queue → (line : ℕ)
    → All (λ place. place < length queue.left) (line_in queue line).places
places_within changes queue is line k d lt =
    let member : IsInLine changes queue.admitted line (get_or (line_in queue line).places k 0) =
    (is.each line).members k lt in
    omega (
      arith,
      member.admitted_before,
      is.under_way.admitted_within,
      is.under_way.lengths,
      get_or_default (line_in queue line).places k d 0 lt,
    )

module _ (changes : List Change) (old : Queue) (first : ℕ) (is : HasSoundLines changes old)
    (lt : first < length changes) (is_board : IsBoard old.board.products old.board.eligibilities old.board.grid)
    (some : 0 < room_in changes old first) where
  -- the request that is applied
  abbrev change : Change
  change = get_or changes first no_change

  -- the blocks that are applied
  abbrev amount : ℕ
  amount = room_in changes old first

  in_left : first < length old.left
  in_left = omega (arith, lt, is.under_way.lengths)

  request : IsRequest (length old.board.eligibilities) (length old.board.products) change
  request = is.under_way.requests first no_change lt

  in_grid : change.bidder < length old.board.grid
  in_grid = omega (arith, request.bidder, is_board.within.bidders)

  in_row : change.product < length (row_of old.board.grid change.bidder)
  in_row =
      let row : IsRow old.board.products (row_of old.board.grid change.bidder) =
      is_board.within.rows change.bidder [] in_grid in
      omega (arith, request.product, row.each)

  some_units : (p : ℕ) → p < length old.board.products → 0 < units_of old.board.products p
  some_units p lt =
      let product : IsProduct (get_or old.board.products p no_product) = is_board.limits p no_product lt in
      omega (arith, product.units)

  few_units : (p : ℕ) → p < length old.board.products → units_of old.board.products p ≤ most_units
  few_units p lt =
      let product : IsProduct (get_or old.board.products p no_product) = is_board.limits p no_product lt in
      omega (arith, product.units)

  pub may_apply_first : MayApply old.board change amount
  may_apply_first = may_apply old.board changes old.left first lt is.under_way.lengths is.under_way.requests is_board
      is.under_way.caps some

  -- the count of applications grows by one
  one_applied : one_more old.board.applied ≡ old.board.applied + 1
  one_applied = omega (arith, is.under_way.countable)

  -- the queue after the application, before another request is made ready
  abbrev pub after : Queue
  after = record old {
    board = applied_to old.board change amount;
    left = set old.left first (get_or old.left first 0 - amount);
  }

  -- a request with nothing left before has nothing left afterward
  nothing_after : (place : ℕ) → get_or old.left place 0 ≡ 0 → get_or after.left place 0 ≡ 0
  nothing_after = set_cases (λ place n. get_or old.left place 0 ≡ 0 → n ≡ 0) old.left first
      (get_or old.left first 0 - amount) 0 in_left (λ nothing. omega (arith, nothing)) (λ place _ nothing. nothing)

  costs_after : (line at : ℕ) → at < length (line_in old line).places
      → (get_or after.left (get_or (line_in old line).places at 0) 0 ≡ 0) ⊎ (get_or (line_in old line).costs at 0
      ≡ cost_at changes old.board.products (get_or (line_in old line).places at 0))
  costs_after line at within =
      ⊎_map (nothing_after (get_or (line_in old line).places at 0)) (λ cost. cost) ((is.each line).costs at within)

  pub kept_after : HasSoundLines changes after
  kept_after = record {
    under_way = under_way_applied old.board after.board changes old.left after.left first old.admitted lt is_board
        is.under_way some (refl, refl) refl refl refl;
    lines = is.lines;
    ready = is.ready;
    each = λ line. record {
      lengths = (is.each line).lengths;
      members = (is.each line).members;
      ascending = (is.each line).ascending;
      costs = costs_after line;
    };
    waiting = λ place within. ⊎_map (nothing_after place) (λ here. here) (is.waiting place within);
  }

  room_of_after : room_of change.kind old.board.products old.board.eligibilities old.board.grid change.bidder
      change.product ≡ amount
      → room_of change.kind old.board.products old.board.eligibilities after.board.grid change.bidder change.product ≡ 0
  room_of_after all =
      let b : ℕ = change.bidder in
      let p : ℕ = change.product in
      let kind : Kind = change.kind in
      subst (λ a. room_of kind old.board.products old.board.eligibilities
      (with_demand old.board.grid b p (changed_demand kind (demand_at old.board.grid b p) a)) b p ≡ 0) all
      (room_used old.board.products old.board.eligibilities old.board.grid b p in_grid in_row request.product kind
      (some_units p request.product)
      (λ reduces. omega (
        arith,
        all,
        held_by kind (cap_of old.board.products p) (demand_at old.board.grid b p) amount may_apply_first.stays reduces,
      )))

  -- the rest of the request has no room
  pub no_room_after : room_in changes after first ≡ 0
  no_room_after =
      let rest : get_or after.left first 0 ≡ get_or old.left first 0 - amount =
      get_or-set_same old.left first (get_or old.left first 0 - amount) 0 in_left in
      elim (cases_lt (room_of change.kind old.board.products old.board.eligibilities old.board.grid change.bidder
      change.product) (get_or old.left first 0)) as (λ _. room_in changes after first ≡ 0) [
        | inl less ↦ omega (arith, rest, room_of_after (omega (arith, less)))
        | inr more ↦ omega (arith, rest, more)
      ]

  -- a request that waits neither for the product nor for the bidder is another one, and its room is unchanged
  another : (place : ℕ) → (line_at changes place ≡ product_line change.product → ⊥)
      → (line_at changes place ≡ bidder_line change.bidder → ⊥) → place ≡ first → ⊥
  another place not_product not_bidder same = elim (own_by change.kind change.bidder change.product) as (λ _. ⊥) [
    | inl product ↦ not_product (ap (line_at changes) same ∙ product)
    | inr bidder ↦ not_bidder (ap (line_at changes) same ∙ bidder)
  ]

  same_room : (place : ℕ) → (line_at changes place ≡ product_line change.product → ⊥) → (line_at changes place
      ≡ bidder_line change.bidder → ⊥) → room_in changes after place ≡ room_in changes old place
  same_room place not_product not_bidder =
      let other : Change = get_or changes place no_change in
      omega (
        arith,
        get_or-set_other old.left first place (get_or old.left first 0 - amount) 0
            (another place not_product not_bidder),
        room_same old.board.products old.board.eligibilities old.board.grid change.bidder change.product in_grid in_row
            request.product other.kind (changed_demand change.kind (demand_at old.board.grid change.bidder
            change.product) amount) other.bidder other.product not_product not_bidder,
      )

  lines_of : HasLines (length old.lines) change
  lines_of = is.lines first no_change lt

  -- after a reduction with blocks left, no request that waits for its product has room
  nobody_after : change.kind ≡ Reduction → 0 < get_or old.left first 0 - amount → (place : ℕ) →
      line_at changes place ≡ product_line change.product → room_in changes after place ≡ 0
  nobody_after reduces more place own =
      let other : Change = get_or changes place no_change in
      let alone : line_at changes first ≡ product_line change.product =
      ap (λ kind. line_by kind change.bidder change.product) reduces in
      omega (
        arith,
        room_of_after (omega (arith, more)),
        room_together old.board.products old.board.eligibilities after.board.grid other.kind change.kind other.bidder
            other.product change.bidder change.product change.product own alone,
      )

  module _ (mid : Queue) (product_woken : HasWokenProduct change (get_or old.left first 0 - amount) after mid) where
    kept_by : HasWokenProduct change (get_or old.left first 0 - amount) after mid → HasSoundLines changes mid
    kept_by (inl woken) = kept_woken changes (product_line change.product) 0 after mid kept_after lines_of.product woken
    kept_by (inr passed) = subst (HasSoundLines changes) (sym passed.same) kept_after

    pub kept_mid : HasSoundLines changes mid
    kept_mid = kept_by product_woken

    -- only the lines and the ready requests have changed
    same_by : HasWokenProduct change (get_or old.left first 0 - amount) after mid
        → mid ≡ record after { ready = mid.ready; lines = mid.lines }
    same_by (inl woken) = woken.same
    same_by (inr passed) = subst (λ (queue : Queue). queue ≡ record after { ready = queue.ready; lines = queue.lines })
        (sym passed.same) refl

    mid_as : mid ≡ record after { ready = mid.ready; lines = mid.lines }
    mid_as = same_by product_woken

    ready_by : (place : ℕ) → Contains old.ready place
        → HasWokenProduct change (get_or old.left first 0 - amount) after mid → Contains mid.ready place
    ready_by place here (inl woken) =
        still_ready changes (product_line change.product) 0 after mid kept_after lines_of.product woken place here
    ready_by place here (inr passed) = subst (λ (queue : Queue). Contains queue.ready place) (sym passed.same) here

    one_more_by : HasWokenProduct change (get_or old.left first 0 - amount) after mid →
        IsOneMore changes (product_line change.product) after mid ⊎ (length mid.ready ≡ length old.ready)
    one_more_by (inl woken) =
        one_more_ready changes (product_line change.product) 0 after mid kept_after lines_of.product woken
    one_more_by (inr passed) = inr (ap (λ (queue : Queue). length queue.ready) passed.same)

    -- a request with room that waits for the product has an earlier or equal one that is ready
    covered_by : (place : ℕ) → place < old.admitted → line_at changes place ≡ product_line change.product
        → 0 < room_in changes after place → HasWokenProduct change (get_or old.left first 0 - amount) after mid
        → IsCovered changes (product_line change.product) 0 mid place
    covered_by place within own room (inl woken) =
        let one : Change = get_or changes place no_change in
        covered changes (product_line change.product) 0 after mid kept_after lines_of.product woken place within own
        (omega (arith, room)) (omega (
          arith,
          free old.board.products old.board.eligibilities after.board.grid one.kind one.bidder one.product
              change.product (units_of old.board.products one.product) own,
        ))
    covered_by place within own room (inr passed) =
        absurd (omega (arith, room, nobody_after passed.reduces passed.more place own))

    pub bidder_in : bidder_line change.bidder < length mid.lines
    bidder_in =
        let of_mid : HasLines (length mid.lines) change = kept_mid.lines first no_change lt in
        of_mid.bidder

    module _ (new : Queue) (limit : ℕ) (bidder_woken : HasWoken (bidder_line change.bidder) limit mid new)
        (limit_is : limit ≡ min
        (unused_units after.board.products after.board.eligibilities after.board.grid change.bidder) most_units) where
      new_as : new ≡ record after { ready = new.ready; lines = new.lines }
      new_as = bidder_woken.same ∙ ap (λ (queue : Queue). record queue { ready = new.ready; lines = new.lines }) mid_as

      kept_new : HasSoundLines changes new
      kept_new = kept_woken changes (bidder_line change.bidder) limit mid new kept_mid bidder_in bidder_woken

      ready_still : (place : ℕ) → Contains old.ready place → Contains new.ready place
      ready_still place here =
          still_ready changes (bidder_line change.bidder) limit mid new kept_mid bidder_in bidder_woken place
          (ready_by place here product_woken)

      left_of_mid : (place : ℕ) → get_or mid.left place 0 ≡ get_or after.left place 0
      left_of_mid place = ap (λ (queue : Queue). get_or queue.left place 0) mid_as

      left_of_new : (place : ℕ) → get_or new.left place 0 ≡ get_or after.left place 0
      left_of_new place = ap (λ (queue : Queue). get_or queue.left place 0) new_as

      products_of_mid : (place : ℕ)
          → cost_at changes mid.board.products place ≡ cost_at changes old.board.products place
      products_of_mid place = ap (λ (queue : Queue). cost_at changes queue.board.products place) mid_as

      products_of_new : (place : ℕ)
          → cost_at changes new.board.products place ≡ cost_at changes old.board.products place
      products_of_new place = ap (λ (queue : Queue). cost_at changes queue.board.products place) new_as

      admitted_of_mid : mid.admitted ≡ old.admitted
      admitted_of_mid = ap (λ (queue : Queue). queue.admitted) mid_as

      admitted_of_new : new.admitted ≡ old.admitted
      admitted_of_new = ap (λ (queue : Queue). queue.admitted) new_as

      -- a request with room that waits for the product has an earlier or equal one that is ready and has room
      behind_product : (place : ℕ) → place < old.admitted → line_at changes place ≡ product_line change.product
          → 0 < room_in changes after place → IsBehind changes after new.ready place
      behind_product place within own room =
          let one : Change = get_or changes place no_change in
          let found : IsCovered changes (product_line change.product) 0 mid place =
          covered_by place within own room product_woken in
          let other : Change = get_or changes found.at no_change in
          record {
            at = found.at;
            is_ready = still_ready changes
                (bidder_line change.bidder) limit mid new kept_mid bidder_in bidder_woken found.at found.is_ready;
            own_line = found.own_line ∙ sym own;
            before = found.before;
            room = omega (
              arith,
              room,
              found.waits,
              left_of_mid found.at,
              room_together old.board.products old.board.eligibilities after.board.grid other.kind one.kind other.bidder
                  other.product one.bidder one.product change.product found.own_line own,
            );
          }

      -- a request with room that waits for the bidder has an earlier or equal one that is ready and has room
      behind_bidder : (place : ℕ) → place < old.admitted → line_at changes place ≡ bidder_line change.bidder
          → 0 < room_in changes after place → IsBehind changes after new.ready place
      behind_bidder place within own room =
          let one : Change = get_or changes place no_change in
          let of_one : IsRequest (length old.board.eligibilities) (length old.board.products) one =
          is.under_way.requests place no_change (omega (arith, within, is.under_way.admitted_within)) in
          let found : IsCovered changes (bidder_line change.bidder) limit new place =
          covered changes (bidder_line change.bidder) limit mid new kept_mid bidder_in bidder_woken place
          (omega (arith, within, admitted_of_mid)) own (omega (arith, room, left_of_mid place)) (omega (
            arith,
            limit_is,
            products_of_mid place,
            within_unused old.board.products old.board.eligibilities after.board.grid one.kind one.bidder one.product
                change.bidder own (omega (arith, room)),
            cost_within one.kind (units_of old.board.products one.product) most_units
                (few_units one.product of_one.product),
          )) in
          let other : Change = get_or changes found.at no_change in
          let of_other : IsRequest (length old.board.eligibilities) (length old.board.products) other =
          is.under_way.requests found.at no_change
          (omega (arith, found.admitted_before, admitted_of_new, is.under_way.admitted_within)) in
          record {
            at = found.at;
            is_ready = found.is_ready;
            own_line = found.own_line ∙ sym own;
            before = found.before;
            room = omega (
              arith,
              found.waits,
              left_of_new found.at,
              room_within old.board.products old.board.eligibilities after.board.grid other.kind other.bidder
                  other.product change.bidder found.own_line (some_units other.product of_other.product)
                  (omega (arith, found.cost, products_of_new found.at, limit_is)),
            );
          }

      -- for a request that waits for neither, nothing has changed
      behind_other : (place : ℕ) → (line_at changes place ≡ product_line change.product → ⊥) → (line_at changes place
          ≡ bidder_line change.bidder → ⊥) → 0 < room_in changes after place → (room_in changes old place ≡ 0)
          ⊎ IsBehind changes old (first ∷ old.ready) place → IsBehind changes after new.ready place
      behind_other place not_product not_bidder room (inl none) =
          absurd (omega (arith, room, none, same_room place not_product not_bidder))
      behind_other place not_product not_bidder room (inr behind) =
          let off_product : line_at changes behind.at ≡ product_line change.product → ⊥ =
          λ e. not_product (sym behind.own_line ∙ e) in
          let off_bidder : line_at changes behind.at ≡ bidder_line change.bidder → ⊥ =
          λ e. not_bidder (sym behind.own_line ∙ e) in
          record {
            at = behind.at;
            is_ready = elim (Contains-cons_cases first old.ready behind.at behind.is_ready) as
                (λ _. Contains new.ready behind.at) [
                  | inl same ↦ absurd (another behind.at off_product off_bidder (sym same))
                  | inr here ↦ ready_still behind.at here
                ];
            own_line = behind.own_line;
            before = behind.before;
            room = omega (arith, behind.room, same_room behind.at off_product off_bidder);
          }

      behind_after : IsTracking changes old (first ∷ old.ready) → (place : ℕ) → place < old.admitted
          → 0 < room_in changes after place → IsBehind changes after new.ready place
      behind_after tracked place within room = elim (cases_eq (line_at changes place) (product_line change.product)) as
          (λ _. IsBehind changes after new.ready place) [
            | inl own ↦ behind_product place within own room
            | inr not_product ↦ elim (cases_eq (line_at changes place) (bidder_line change.bidder)) as
                (λ _. IsBehind changes after new.ready place) [
                  | inl own ↦ behind_bidder place within own room
                  | inr not_bidder ↦ behind_other place not_product not_bidder room (tracked place within)
                ]
          ]

      tracked_after : IsTracking changes old (first ∷ old.ready) → IsTracking changes after new.ready
      tracked_after tracked place within =
          ⊎_map (λ none. none) (behind_after tracked place within) (none_or_some (room_in changes after place))

      -- at most most_woken requests were made ready
      few_by : IsOneMore changes (product_line change.product) after mid ⊎ (length mid.ready ≡ length old.ready) →
          IsOneMore changes (bidder_line change.bidder) mid new ⊎ (length new.ready ≡ length mid.ready) →
          length new.ready ≤ length old.ready + most_woken changes
      few_by (inl one) (inl other) = omega (
        arith,
        one.longer,
        other.longer,
        two_of_one changes first one.at other.at lt (omega (arith, one.admitted_before, is.under_way.admitted_within))
            (omega (arith, other.admitted_before, admitted_of_mid, is.under_way.admitted_within))
            one.own_line other.own_line,
      )
      few_by (inl one) (inr same) = omega (arith, one.longer, same, some_of_one changes first lt)
      few_by (inr same) (inl other) = omega (arith, same, other.longer, some_of_one changes first lt)
      few_by (inr same) (inr same') = omega (arith, same, same')

      few_woken : length new.ready ≤ length old.ready + most_woken changes
      few_woken = few_by (one_more_by product_woken)
          (one_more_ready changes (bidder_line change.bidder) limit mid new kept_mid bidder_in bidder_woken)

      -- the bound allows for their tests, and the application took at least one block
      abbrev end : Queue
      end = record after { ready = new.ready; lines = new.lines }

      costs_none : CostsMore changes 0 old end
      costs_none =
          let paid : one_more old.board.applied * most_woken changes ≡ (old.board.applied + 1) * most_woken changes =
          ap (λ n. n * most_woken changes) one_applied in
          omega (arith, paid, few_woken)

      sum_left : sum after.left + amount ≡ sum old.left
      sum_left = sum_after old.board changes old.left first lt is.under_way.lengths is.under_way.requests
          is_board is.under_way.caps

      less_work : work end < work old
      less_work = omega (arith, few_woken, some, sum_left)

      fewer_blocks : TakesBlocks old end
      fewer_blocks = omega (arith, one_applied, some, sum_left)

      progress_end : progress end
          ≡ with_application old.board.products old.board.eligibilities changes (progress old) first
      progress_end =
          λ k. record { admitted = old.admitted; left = after.left; grid = after.board.grid; applied = one_applied k }

      pub applied_whole : IsTracking changes old (first ∷ old.ready) → IsAppliedWhole changes first old new
      applied_whole tracked = subst (IsAppliedWhole changes first old) (sym new_as) (record {
        in_order = subst (HasSoundLines changes) new_as kept_new;
        tracked = λ place within. ⊎_map (λ none. none) (λ (behind : IsBehind changes after new.ready place). record {
          at = behind.at;
          is_ready = behind.is_ready;
          own_line = behind.own_line;
          before = behind.before;
          room = behind.room;
        }) (tracked_after tracked place within);
        terms = record { products = refl; eligibilities = refl };
        blocks = fewer_blocks;
        applied = progress_end;
        tests = refl;
        no_room = no_room_after;
        counts = costs_none;
        less = less_work;
      })
