-- The bounds fit the costs, also with one more cost.
use Rattle.std.proofs.Common.{◌≡◌, ℕ, ◌+◌, ◌*◌, ◌/◌, ◌<◌, ◌≤◌, ◌++◌, ◌∷◌, [], List, Bool, true, false, min, length}
use Rattle.std.proofs.Common.{get_or, set, length-append, eqb-true, eq-eqb, inl, inr, refl, ap, sym, subst, ◌∙◌, arith}
use Rattle.std.proofs.Common.{take, drop}
use Rattle.std.proofs.Math.Seq.{take-append_seam}
use Rattle.std.specs.List.{refill}
use Rattle.std.specs.Prelude.{◌==◌, if◌then◌else◌}
use Rattle.std.proofs.lemmas.Bool.{cases_eq, cases_lt, false≢true}
use Rattle.std.proofs.lemmas.List.{get_or_append_left, get_or_push, get_or-set_same, get_or-set_other, length-set}
use Rattle.clock_queue.specs.inside.Costs.{AreFrom, HasBounds, spent, with_bound}

-- a list as it is written back to a vector
pub refilled : (old new : List ℕ) → length new ≡ length old → refill (length old) old new ≡ new
refilled old new same =
    ap (λ n. take n (new ++ drop (length new) old)) (sym same) ∙ take-append_seam new (drop (length new) old)

-- the bounds fit, and there is one for the block of the next cost
pub record HasNext (costs bounds : List ℕ) (passed block : ℕ) : Type 0 where
  pub fit : HasBounds costs bounds passed
  pub within : block < length bounds

module _ (costs bounds : List ℕ) (passed block : ℕ) (has : HasBounds costs bounds passed)
    (next : block ≡ length costs / 64) where
  longer : length (bounds ++ spent ∷ []) ≡ length bounds + 1
  longer = length-append bounds (spent ∷ [])

  below_more : block ≡ length bounds → (b : ℕ) → b < length bounds + 1
      → AreFrom (get_or (bounds ++ spent ∷ []) b 0) costs (64 * b) (64 * b + 64)
  below_more last b lt place from to within = elim (cases_lt b (length bounds)) as
      (λ _. get_or (bounds ++ spent ∷ []) b 0 ≤ get_or costs place 0) [
        | inl before ↦ omega (
          arith,
          get_or_append_left bounds (spent ∷ []) 0 b before,
          has.below b before place from to within,
        )
        | inr past ↦ absurd (omega (arith, past, from, within, has.covered))
      ]

  with_more : block ≡ length bounds → HasNext costs (bounds ++ spent ∷ []) passed block
  with_more last = record {
    fit = record {
      covered = omega (arith, has.covered, longer);
      no_more = omega (arith, last, next, longer);
      below = λ b lt. below_more last b (omega (arith, lt, longer));
      passed_within = omega (arith, has.passed_within, longer);
      passed_spent = has.passed_spent;
    };
    within = omega (arith, last, longer);
  }

  by_test : (t : Bool) → (block == length bounds) ≡ t
      → HasNext costs (if t then bounds ++ spent ∷ [] else bounds) passed block
  by_test true is = with_more (eqb-true block (length bounds) is)
  by_test false is = record {
    fit = has;
    within = elim (cases_eq block (length bounds)) as (λ _. block < length bounds) [
      | inl same ↦ absurd (false≢true (sym is ∙ eq-eqb block (length bounds) same))
      | inr differ ↦ omega (arith, differ, next, has.covered)
    ];
  }

  -- with a bound for the block of the next cost
  pub bound_made : (new : List ℕ) → new ≡ with_bound bounds block → HasNext costs new passed block
  bound_made new is = subst (λ list. HasNext costs list passed block) (sym is) (by_test (block == length bounds) refl)

module _ (costs bounds : List ℕ) (passed block cost : ℕ) (has : HasNext costs bounds passed block)
    (next : block ≡ length costs / 64) where
  abbrev new : List ℕ
  new = set bounds block (min (get_or bounds block 0) cost)

  count : length (costs ++ cost ∷ []) ≡ length costs + 1
  count = length-append costs (cost ∷ [])

  -- the bound of the last block is at most its costs, and so is that of each other block
  at_last : (place : ℕ) → 64 * block ≤ place → place < 64 * block + 64 → place < length costs + 1
      → min (get_or bounds block 0) cost ≤ get_or (costs ++ cost ∷ []) place 0
  at_last place from to within = elim (cases_lt place (length costs)) as
      (λ _. min (get_or bounds block 0) cost ≤ get_or (costs ++ cost ∷ []) place 0) [
        | inl before ↦ omega (
          arith,
          get_or_append_left costs (cost ∷ []) 0 place before,
          has.fit.below block has.within place from to before,
        )
        | inr past ↦ omega (arith, get_or_push costs cost 0 place (omega (arith, past, within)))
      ]

  below_each : (b : ℕ) → b < length bounds → AreFrom (get_or new b 0) (costs ++ cost ∷ []) (64 * b) (64 * b + 64)
  below_each b lt place from to within = elim (cases_eq b block) as
      (λ _. get_or new b 0 ≤ get_or (costs ++ cost ∷ []) place 0) [
        | inl same ↦ omega (
          arith,
          ap (λ n. get_or new n 0) same,
          get_or-set_same bounds block (min (get_or bounds block 0) cost) 0 has.within,
          at_last place (omega (arith, same, from)) (omega (arith, same, to)) (omega (arith, within, count)),
        )
        | inr differ ↦
            let before : place < length costs = omega (arith, differ, next, from, to, within, count) in
            omega (
              arith,
              get_or-set_other bounds block b (min (get_or bounds block 0) cost) 0 differ,
              get_or_append_left costs (cost ∷ []) 0 place before,
              has.fit.below b lt place from to before,
            )
      ]

  -- with one more cost, and the bound of its block lowered to it
  cost_added : HasBounds (costs ++ cost ∷ []) new (min passed block)
  cost_added =
      let same : length new ≡ length bounds = length-set bounds block (min (get_or bounds block 0) cost) in
      record {
        covered = omega (arith, same, count, next, has.within);
        no_more = omega (arith, same, count, has.fit.no_more);
        below = λ b lt. below_each b (omega (arith, lt, same));
        passed_within = omega (arith, same, has.fit.passed_within);
        passed_spent = λ place from to within.
            let before : place < length costs = omega (arith, to, next) in
            omega (
              arith,
              get_or_append_left costs (cost ∷ []) 0 place before,
              has.fit.passed_spent place from (omega (arith, to)) before,
            );
      }

  -- as the code writes it
  pub added_as : (list now read : List ℕ) (least number : ℕ) → list ≡ costs ++ cost ∷ [] → now ≡ bounds → read ≡ bounds
      → least ≡ min (get_or read block 0) cost → number ≡ min passed block
      → HasBounds list (refill (length bounds) bounds (set now block least)) number
  added_as list now read least number list_is now_is read_is least_is number_is =
      subst (λ xs. HasBounds xs (refill (length bounds) bounds (set now block least)) number) (sym list_is)
      (subst (λ xs. HasBounds (costs ++ cost ∷ []) xs number)
      (sym (refilled bounds (set now block least) (length-set now block least ∙ ap length now_is)
      ∙ ap (λ xs. set xs block least) now_is
      ∙ ap (set bounds block) (least_is ∙ ap (λ xs. min (get_or xs block 0) cost) read_is)))
      (subst (HasBounds (costs ++ cost ∷ []) new) (sym number_is) cost_added))

module _ (costs bounds : List ℕ) (passed place least : ℕ) (has : HasBounds costs bounds passed)
    (within : place < length costs)
    (from : AreFrom least (set costs place spent) (64 * (place / 64)) (64 * (place / 64) + 64)) where
  abbrev new_costs : List ℕ
  new_costs = set costs place spent

  abbrev new_bounds : List ℕ
  new_bounds = set bounds (place / 64) least

  as_before : (other : ℕ) → (other ≡ place → ⊥) → get_or new_costs other 0 ≡ get_or costs other 0
  as_before other differ = get_or-set_other costs place other spent 0 differ

  same_costs : length new_costs ≡ length costs
  same_costs = length-set costs place spent

  same_bounds : length new_bounds ≡ length bounds
  same_bounds = length-set bounds (place / 64) least

  below_spent : (b : ℕ) → b < length bounds → AreFrom (get_or new_bounds b 0) new_costs (64 * b) (64 * b + 64)
  below_spent b lt other start end before = elim (cases_eq b (place / 64)) as
      (λ _. get_or new_bounds b 0 ≤ get_or new_costs other 0) [
        | inl same ↦ omega (
          arith,
          ap (λ n. get_or new_bounds n 0) same,
          get_or-set_same bounds (place / 64) least 0 (omega (arith, within, has.covered)),
          from other (omega (arith, same, start)) (omega (arith, same, end)) before,
        )
        | inr differ ↦ omega (
          arith,
          get_or-set_other bounds (place / 64) b least 0 differ,
          as_before other (λ same. differ (omega (arith, same, start, end))),
          has.below b lt other start end (omega (arith, before, same_costs)),
        )
      ]

  still_spent : AreFrom spent new_costs 0 (64 * passed)
  still_spent other start end before = elim (cases_eq other place) as (λ _. spent ≤ get_or new_costs other 0) [
    | inl same ↦ omega (arith, ap (λ n. get_or new_costs n 0) same, get_or-set_same costs place spent 0 within)
    | inr differ ↦
        omega (arith, as_before other differ, has.passed_spent other start end (omega (arith, before, same_costs)))
  ]

  -- with the cost at an index spent, and the bound of its block raised
  pub cost_spent : HasBounds new_costs new_bounds passed
  cost_spent = record {
    covered = omega (arith, has.covered, same_costs, same_bounds);
    no_more = omega (arith, has.no_more, same_costs, same_bounds);
    below = λ b lt. below_spent b (omega (arith, lt, same_bounds));
    passed_within = omega (arith, has.passed_within, same_bounds);
    passed_spent = still_spent;
  }

-- a block of which all costs are spent is passed
pub block_passed : (costs bounds : List ℕ) (passed : ℕ) → HasBounds costs bounds passed → passed < length bounds
    → get_or bounds passed 0 ≡ spent → HasBounds costs bounds (passed + 1)
block_passed costs bounds passed has more all = record {
  covered = has.covered;
  no_more = has.no_more;
  below = has.below;
  passed_within = omega (arith, more);
  passed_spent = λ place from to within. elim (cases_lt place (64 * passed)) as (λ _. spent ≤ get_or costs place 0) [
    | inl before ↦ has.passed_spent place from before within
    | inr past ↦ omega (arith, all, has.below passed more place past (omega (arith, to)) within)
  ];
}
