-- A loop over the positive demands of a row computes the same activity as one over all products.
use Rattle.std.proofs.Common.{◌≡◌, ℕ, zero, suc, ◌+◌, ◌*◌, ◌<◌, ◌≤◌, ◌-◌, List, [], ◌∷◌, length, drop, get_or}
use Rattle.std.proofs.Common.{refl, ap, sym, ◌∙◌, arith, ⊎_elim}
use Rattle.std.specs.Prelude.{zip}
use Rattle.std.proofs.lemmas.Bool.{cases_lt}
use Rattle.std.specs.List.{AllWithin}
use Rattle.std.proofs.lemmas.List.{get_or-drop, drop-drop}
use Rattle.std.proofs.lemmas.List.Sums.{sum_by-cons}
use Rattle.clock_terms.specs.declared.setup.Product.{Product}
use Rattle.clock_terms.specs.Eligibility.{activity}
use Rattle.clock_setup.proofs.OpeningLaws.{activity-at, activity-end}

no_numbers : (products : List Product) → activity products [] ≡ 0
no_numbers [] = refl
no_numbers (product ∷ products) = refl

-- skipping demands of 0 at the start of a row leaves its activity as it is
activity-behind : (n : ℕ) (products : List Product) (row : List ℕ) → ((k : ℕ) → k < n → get_or row k 0 ≡ 0)
    → activity (drop n products) (drop n row) ≡ activity products row
activity-behind zero products row none = refl
activity-behind (suc n) [] row none = refl
activity-behind (suc n) (product ∷ products) [] none = no_numbers (drop n products)
activity-behind (suc n) (product ∷ products) (demand ∷ row) none =
    activity-behind n products row (λ k below. none (suc k) (omega (arith, below)))
    ∙ omega (
      arith,
      sum_by-cons (λ (line : Product × ℕ). line.0.units * line.1) (product, demand) (zip products row),
      ap (λ n. product.units * n) (none 0 (omega arith)),
    )

-- skipping demands of 0 anywhere in a row leaves the activity from there on as it is
pub activity-passed : (products : List Product) (row : List ℕ) (from to : ℕ) → from ≤ to → AllWithin (λ demand. demand
    ≡ 0) row from to → activity (drop to products) (drop to row) ≡ activity (drop from products) (drop from row)
activity-passed products row from to order none =
    let count = to - from in
    let is : from + count ≡ to = omega (arith, order) in
    ap (λ n. activity (drop n products) (drop n row)) (sym is)
    ∙ ap (λ list. activity list (drop (from + count) row)) (sym (drop-drop count from products))
    ∙ ap (λ list. activity (drop count (drop from products)) list) (sym (drop-drop count from row))
    ∙ activity-behind count (drop from products) (drop from row)
    (λ k below. get_or-drop from row k 0 ∙ none (from + k) 0 (omega arith) (omega (arith, below, is)))

-- if all demands from `from` on are 0, the activity from there on is 0
pub activity-none : (products : List Product) (row : List ℕ) (from : ℕ)
    → AllWithin (λ demand. demand ≡ 0) row from (length row) → activity (drop from products) (drop from row) ≡ 0
activity-none products row from none = ⊎_elim (λ (past : length row < from). activity-end products row from
    (omega (arith, past))) (λ (order : from ≤ length row). sym (activity-passed products row from
    (length row) order none) ∙ activity-end products row (length row) (omega arith)) (cases_lt (length row) from)

-- the activity so far, after one positive demand more
pub so_far_more : (products : List Product) (row : List ℕ) (place : ℕ) (one : Product) → place < length row
    → length row ≡ length products → (total whole next demand : ℕ) → demand ≡ get_or row place 0
    → total + activity (drop place products) (drop place row) ≡ whole → place + 1 ≤ next
    → AllWithin (λ demand. demand ≡ 0) row (place + 1) next
    → total + (get_or products place one).units * demand + activity (drop next products) (drop next row) ≡ whole
so_far_more products row place one within each total whole next demand is before order none =
    let passed = activity-passed products row (place + 1) next order none in
    rw is (omega (arith, before, passed, activity-at products row place one within each))
