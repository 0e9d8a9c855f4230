-- Members of lists, and of the list of ready requests after an addition.
use Rattle.std.proofs.Common.{◌≡◌, ℕ, zero, suc, ◌<◌, List, [], ◌∷◌, ◌⊎◌, inl, inr, arith, get_or, length, refl, sym}
use Rattle.std.proofs.Common.{subst, All}
use Rattle.std.specs.List.{Contains}
use Rattle.std.proofs.lemmas.List.Sorted.{All-permutation, Contains-permutation}
use Rattle.std.proofs.lemmas.List.Elements.{All-cons}
use Rattle.clock_queue.specs.inside.Ready.{IsAdded}

-- a member is the first element or one of the rest
first_or_rest : (x : ℕ) (xs : List ℕ) (y k : ℕ) → k < length (x ∷ xs) → get_or (x ∷ xs) k y ≡ y
    → (x ≡ y) ⊎ Contains xs y
first_or_rest x xs y zero lt at = inl at
first_or_rest x xs y (suc k) lt at = inr (k, omega (arith, lt), at)

pub Contains-cons_cases : (x : ℕ) (xs : List ℕ) (y : ℕ) → Contains (x ∷ xs) y → (x ≡ y) ⊎ Contains xs y
Contains-cons_cases x xs y (k, lt, at) = first_or_rest x xs y k lt at

pub Contains-first : (x : ℕ) (xs : List ℕ) (y : ℕ) → x ≡ y → Contains (x ∷ xs) y
Contains-first x xs y same = (0, omega arith, same)

pub Contains-rest : (x : ℕ) (xs : List ℕ) (y : ℕ) → Contains xs y → Contains (x ∷ xs) y
Contains-rest x xs y (k, lt, at) = (suc k, omega (arith, lt), at)

pub none_in_nil : (y : ℕ) → Contains [] y → ⊥
none_in_nil y (k, lt, at) = omega (arith, lt)

-- the added index is in the list, and so are the old ones
pub added_there : (old : List ℕ) (place : ℕ) (new : List ℕ) → IsAdded old place new → Contains new place
added_there old place new (inl was) = subst (λ (list : List ℕ). Contains list place) (sym was.same) was.there
added_there old place new (inr moved) =
    Contains-permutation (place ∷ old) new place moved (Contains-first place old place refl)

pub added_kept : (old : List ℕ) (place : ℕ) (new : List ℕ) → IsAdded old place new → (one : ℕ)
    → Contains old one → Contains new one
added_kept old place new (inl was) one here = subst (λ (list : List ℕ). Contains list one) (sym was.same) here
added_kept old place new (inr moved) one here =
    Contains-permutation (place ∷ old) new one moved (Contains-rest place old one here)

pub added_below : (n : ℕ) (old : List ℕ) (place : ℕ) (new : List ℕ) → IsAdded old place new → place < n
    → All (λ one. one < n) old → All (λ one. one < n) new
added_below n old place new (inl was) lt below = subst (All (λ one. one < n)) (sym was.same) below
added_below n old place new (inr moved) lt below =
    All-permutation (λ one. one < n) (place ∷ old) new moved (All-cons (λ one. one < n) place old lt below)
