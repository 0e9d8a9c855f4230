-- The entries of a list in which one was replaced.
use Rattle.std.proofs.Common.{◌≡◌, ℕ, ◌<◌, inl, inr, List, sym, subst, get_or, set, length}
use Rattle.std.proofs.lemmas.Bool.{cases_eq}
use Rattle.std.proofs.lemmas.List.{get_or-set_same, get_or-set_other}

-- What holds of the new entry at its index, and of each other entry at its own, holds of every entry afterward.
pub set_cases : {A : Type 0} (P : ℕ → A → Type 0) (xs : List A) (i : ℕ) (new d : A) → i < length xs → P i new →
    ((k : ℕ) → (k ≡ i → ⊥) → P k (get_or xs k d)) → (k : ℕ) → P k (get_or (set xs i new) k d)
set_cases P xs i new d within own other k = elim (cases_eq k i) as (λ _. P k (get_or (set xs i new) k d)) [
  | inl same ↦ subst (λ j. P j (get_or (set xs i new) j d)) (sym same)
      (subst (P i) (sym (get_or-set_same xs i new d within)) own)
  | inr differ ↦ subst (P k) (sym (get_or-set_other xs i k new d differ)) (other k differ)
]
