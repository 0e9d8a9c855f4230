-- Skipping products with a demand of 0 changes neither activity nor totals. So a loop over the positive demands of a
-- row computes the same as one over all products.
use Rattle.std.proofs.Common.{◌≡◌, ◌≢◌, ℕ, zero, suc, ◌+◌, ◌*◌, ◌<◌, ◌≤◌, ◌-◌, List, [], ◌∷◌, length, drop, get_or, set}
use Rattle.std.proofs.Common.{refl, ap, sym, subst, ◌∙◌, arith, All, ⊎_elim, inl, inr}
use Rattle.std.specs.Prelude.{zip}
use Rattle.std.proofs.lemmas.Bool.{cases_lt, cases_order}
use Rattle.std.specs.List.{AllWithin}
use Rattle.std.proofs.lemmas.List.{get_or_default, get_or-drop, get_or-set_same, get_or-set_other, drop-drop, drop_more}
use Rattle.std.proofs.lemmas.List.{drop_all}
use Rattle.std.proofs.lemmas.List.Sums.{sum_by-cons}
use Rattle.std.proofs.lemmas.Nat.{mul-le}
use Rattle.clock_terms.specs.declared.setup.Product.{Product}
use Rattle.clock_terms.specs.Limits.{no_product, IsProduct, IsRow}
use Rattle.clock_terms.specs.Eligibility.{activity}

-- without demands, activity is 0
no_numbers : (products : List Product) → activity products [] ≡ 0
no_numbers [] = refl
no_numbers (product ∷ products) = refl

-- skipping demands of 0 at the start of a row leaves its activity as it is
activity-behind : (n : ℕ) (products : List Product) (row : List ℕ) → ((k : ℕ) → k < n → get_or row k 0 ≡ 0)
    → activity (drop n products) (drop n row) ≡ activity products row
activity-behind zero products row none = refl
activity-behind (suc n) [] row none = refl
activity-behind (suc n) (product ∷ products) [] none = no_numbers (drop n products)
activity-behind (suc n) (product ∷ products) (demand ∷ row) none =
    activity-behind n products row (λ k below. none (suc k) (omega (arith, below)))
    ∙ omega (
      arith,
      sum_by-cons (λ (line : Product × ℕ). line.0.units * line.1) (product, demand) (zip products row),
      ap (λ n. product.units * n) (none 0 (omega arith)),
    )

-- after the end of a row, activity is 0
activity-end : (products : List Product) (row : List ℕ) (from : ℕ) → length row ≤ from
    → activity (drop from products) (drop from row) ≡ 0
activity-end products row from past =
    ap (λ list. activity (drop from products) list) (drop_all from row past) ∙ no_numbers (drop from products)

-- skipping demands of 0 anywhere in a row leaves the activity from there on as it is
pub activity-passed : (products : List Product) (row : List ℕ) (from to : ℕ) → from ≤ to → AllWithin (λ demand. demand
    ≡ 0) row from to → activity (drop to products) (drop to row) ≡ activity (drop from products) (drop from row)
activity-passed products row from to order none =
    let count = to - from in
    let is : from + count ≡ to = omega (arith, order) in
    ap (λ n. activity (drop n products) (drop n row)) (sym is)
    ∙ ap (λ list. activity list (drop (from + count) row)) (sym (drop-drop count from products))
    ∙ ap (λ list. activity (drop count (drop from products)) list) (sym (drop-drop count from row))
    ∙ activity-behind count (drop from products) (drop from row)
    (λ k below. get_or-drop from row k 0 ∙ none (from + k) 0 (omega arith) (omega (arith, below, is)))

-- if all demands from `from` on are 0, the activity from there on is 0
pub activity-none : (products : List Product) (row : List ℕ) (from : ℕ)
    → AllWithin (λ demand. demand ≡ 0) row from (length row) → activity (drop from products) (drop from row) ≡ 0
activity-none products row from none = ⊎_elim (λ (past : length row < from). activity-end products row from
    (omega (arith, past))) (λ (order : from ≤ length row). sym (activity-passed products row from
    (length row) order none) ∙ activity-end products row (length row) (omega arith)) (cases_lt (length row) from)

-- a product with positive demand, and the products after it up to the next one
module _ (products : List Product) (row : List ℕ) (place : ℕ) (one : Product) (held : place < length row)
    (each : length row ≡ length products) where
  activity-at : activity (drop place products) (drop place row) ≡ (get_or products place one).units * get_or row place 0
      + activity (drop (place + 1) products) (drop (place + 1) row)
  activity-at =
      ap (λ list. activity list (drop place row)) (drop_more products place one (omega (arith, held, each)))
      ∙ ap (λ list. activity (get_or products place one ∷ drop (place + 1) products) list) (drop_more row place 0 held)
      ∙ sum_by-cons (λ (line : Product × ℕ). line.0.units * line.1) (get_or products place one, get_or row place 0)
      (zip (drop (place + 1) products) (drop (place + 1) row))

  pub so_far_more : (total whole next demand : ℕ) → demand ≡ get_or row place 0 → total + activity (drop place products)
      (drop place row) ≡ whole → place + 1 ≤ next → AllWithin (λ demand. demand ≡ 0) row (place + 1) next
      → total + (get_or products place one).units * demand + activity (drop next products) (drop next row) ≡ whole
  so_far_more total whole next demand is before order none =
      let passed = activity-passed products row (place + 1) next order none in
      rw is (omega (arith, before, passed, activity-at))

  pub small_more : (total next demand : ℕ) → demand ≡ get_or row place 0 → All IsProduct products → IsRow products row
      → total ≤ 1000000000 * place → place + 1 ≤ next
      → total + (get_or products place one).units * demand ≤ 1000000000 * next
  small_more total next demand read limits is before order =
      let within : place < length products = omega (arith, held, each) in
      let good : IsProduct (get_or products place no_product) = limits place no_product within in
      let units : (get_or products place one).units ≤ 1000000 =
      omega (
        arith,
        good.units.1,
        ap (λ (product : Product). product.units) (get_or_default products place one no_product within),
      ) in
      let few : get_or row place 0 ≤ 1000 = omega (arith, is.capped place held, good.cap.1, good.supply.1) in
      let taken : (get_or products place one).units * get_or row place 0 ≤ 1000000000 =
      mul-le _ _ 1000000 1000 units few in
      rw read (omega (arith, before, order, taken))

-- totals of a row's demands up to one index, after the next positive demand was added and the demands of 0 after it
-- were skipped
module _ (initial totals after row : List ℕ) (from place next demand value : ℕ) (order : from ≤ place)
    (behind : place < next) (same : length totals ≡ length initial) (read : demand ≡ get_or row place 0)
    (passed : AllWithin (λ demand. demand ≡ 0) row from place)
    (ahead : (product : ℕ) → from ≤ product → get_or totals product 0 ≡ get_or initial product 0)
    (is : after ≡ set totals place value) (sum : value ≡ get_or totals place 0 + demand) where
  set_here : place < length initial → get_or after place 0 ≡ get_or initial place 0 + get_or row place 0
  set_here within =
      ap (λ (list : List ℕ). get_or list place 0) is
      ∙ get_or-set_same totals place value 0 (omega (arith, within, same))
      ∙ omega (arith, sum, ahead place order, read)

  set_there : (product : ℕ) → product ≢ place → get_or after product 0 ≡ get_or totals product 0
  set_there product other =
      ap (λ (list : List ℕ). get_or list product 0) is ∙ get_or-set_other totals place product value 0 other

  pub added_more : ((product : ℕ) → product < from → product < length initial
      → get_or totals product 0 ≡ get_or initial product 0 + get_or row product 0)
      → AllWithin (λ demand. demand ≡ 0) row (place + 1) next → (product : ℕ) → product < next
      → product < length initial → get_or after product 0 ≡ get_or initial product 0 + get_or row product 0
  added_more added none product below within =
      elim (cases_order product place) [
        | inl here ↦ subst (λ (n : ℕ). get_or after n 0 ≡ get_or initial n 0 + get_or row n 0) (sym here)
            (set_here (omega (arith, here, within)))
        | inr (inr above) ↦ omega (
          arith,
          set_there product (λ here. omega (arith, here, above)),
          ahead product (omega (arith, order, above)),
          none product 0 (omega (arith, above)) below,
        )
        | inr (inl before) ↦ ⊎_elim (λ (early : product < from). set_there product (λ here. omega (arith, here, before))
            ∙ added product early within) (λ (late : from ≤ product). omega (
              arith,
              set_there product (λ here. omega (arith, here, before)),
              ahead product late,
              passed product 0 late before,
            ))
            (cases_lt product from)
      ]

  pub ahead_more : (product : ℕ) → next ≤ product → get_or after product 0 ≡ get_or initial product 0
  ahead_more product later = set_there product (λ here. omega (arith, here, later, behind))
      ∙ ahead product (omega (arith, later, behind, order))
