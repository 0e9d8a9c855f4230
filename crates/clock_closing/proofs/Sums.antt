-- Proves facts about sums and maps of lists, by induction over the list.
use Rattle.std.proofs.Common.{◌≡◌, ℕ, zero, suc, ◌<◌, ◌≤◌, List, [], ◌∷◌, refl, sym, arith, get_or, length, All}
use Rattle.std.specs.Prelude.{sum_by, map}
use Rattle.std.specs.List.{range_with_len}
use Rattle.std.proofs.lemmas.List.Sums.{sum_by-cons}
use Rattle.std.proofs.lemmas.List.Elements.{All-head, All-tail}
use Rattle.std.proofs.lemmas.List.FromFn.{fill_by_all}

module _ {A : Type 0} (f g : A → ℕ) where
  -- If each part is at most another, so is the sum.
  pub sum_by-le_sum_by : (xs : List A) → All (λ x. f x ≤ g x) xs → sum_by f xs ≤ sum_by g xs
  sum_by-le_sum_by [] all = omega arith
  sum_by-le_sum_by (x ∷ xs) all =
      omega (
        arith,
        sum_by-cons f x xs,
        sum_by-cons g x xs,
        All-head (λ x. f x ≤ g x) x xs all,
        sum_by-le_sum_by xs (All-tail (λ x. f x ≤ g x) x xs all),
      )

  -- If one part is also less, so is the sum.
  pub sum_by-lt_sum_by : (xs : List A) (k : ℕ) (d : A) → k < length xs → All (λ x. f x ≤ g x) xs
      → f (get_or xs k d) < g (get_or xs k d) → sum_by f xs < sum_by g xs
  sum_by-lt_sum_by [] k d lt all less = absurd (omega (arith, lt))
  sum_by-lt_sum_by (x ∷ xs) zero d lt all less =
      omega (
        arith,
        sum_by-cons f x xs,
        sum_by-cons g x xs,
        less,
        sum_by-le_sum_by xs (All-tail (λ x. f x ≤ g x) x xs all),
      )
  sum_by-lt_sum_by (x ∷ xs) (suc k) d lt all less =
      omega (
        arith,
        sum_by-cons f x xs,
        sum_by-cons g x xs,
        All-head (λ x. f x ≤ g x) x xs all,
        sum_by-lt_sum_by xs k d (omega (arith, lt)) (All-tail (λ x. f x ≤ g x) x xs all) less,
      )

-- A sum whose parts are at least 1 is at least the number of its parts.
pub length-le-sum_by : {A : Type 0} (f : A → ℕ) (xs : List A) → All (λ x. 1 ≤ f x) xs → length xs ≤ sum_by f xs
length-le-sum_by f [] all = omega arith
length-le-sum_by f (x ∷ xs) all =
    omega (
      arith,
      sum_by-cons f x xs,
      All-head (λ x. 1 ≤ f x) x xs all,
      length-le-sum_by f xs (All-tail (λ x. 1 ≤ f x) x xs all),
    )

pub sum_by-map : {A B : Type 0} (f : B → ℕ) (g : A → B) (xs : List A) → sum_by f (map g xs) ≡ sum_by (λ x. f (g x)) xs
sum_by-map f g [] = refl
sum_by-map f g (x ∷ xs) =
    omega (arith, sum_by-cons f (g x) (map g xs), sum_by-cons (λ x. f (g x)) x xs, sum_by-map f g xs)

-- A list is the list of its elements by index.
pub map-get_or : {A : Type 0} (xs : List A) (n : ℕ) (d : A) → length xs ≡ n
    → map (λ k. get_or xs k d) (range_with_len 0 n) ≡ xs
map-get_or xs n d long = sym (fill_by_all (λ k. get_or xs k d) xs n d long (λ k lt. refl))
