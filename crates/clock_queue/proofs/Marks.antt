-- Marked indices are in the heap, also after an index is added or removed.
use Rattle.std.proofs.Common.{◌≡◌, ℕ, List, ◌∷◌, Bool, true, false, ap, sym, ◌∙◌, inl, inr, arith, get_or, set, length}
use Rattle.std.specs.List.{Contains}
use Rattle.std.specs.List.Sorted.{IsPermutation}
use Rattle.std.proofs.lemmas.Bool.{cases_eq, cases_lt, false≢true}
use Rattle.std.proofs.lemmas.List.{get_or-set_same, get_or-set_other, get_or_past, length-set}
use Rattle.std.proofs.lemmas.List.Sorted.{Contains-permutation}
use Rattle.clock_queue.proofs.Members.{Contains-cons_cases, Contains-first, Contains-rest}

-- after an index is added and marked
pub marked_added : (marks : List Bool) (old new : List ℕ) (place : ℕ)
    → ((one : ℕ) → get_or marks one false ≡ true → Contains old one) → IsPermutation (place ∷ old) new → (one : ℕ)
    → get_or (set marks place true) one false ≡ true → Contains new one
marked_added marks old new place was moved one mark = elim (cases_eq one place) as (λ _. Contains new one) [
  | inl same ↦ Contains-permutation (place ∷ old) new one moved (Contains-first place old one (sym same))
  | inr differ ↦ Contains-permutation (place ∷ old) new one moved
      (Contains-rest place old one (was one (sym (get_or-set_other marks place one true false differ) ∙ mark)))
]

-- an index whose mark was removed is not marked
no_mark : (marks : List Bool) (place : ℕ) → get_or (set marks place false) place false ≡ false
no_mark marks place =
    elim (cases_lt place (length marks)) as (λ _. get_or (set marks place false) place false ≡ false) [
      | inl within ↦ get_or-set_same marks place false false within
      | inr past ↦ get_or_past (set marks place false) place false (omega (arith, past, length-set marks place false))
    ]

-- after an index is removed, with its mark
pub marked_taken : (marks : List Bool) (old new : List ℕ) (place : ℕ)
    → ((one : ℕ) → get_or marks one false ≡ true → Contains old one) → IsPermutation old (place ∷ new) → (one : ℕ)
    → get_or (set marks place false) one false ≡ true → Contains new one
marked_taken marks old new place was moved one mark = elim (cases_eq one place) as (λ _. Contains new one) [
  | inl same ↦ absurd
      (false≢true (sym (no_mark marks place) ∙ ap (λ n. get_or (set marks place false) n false) (sym same) ∙ mark))
  | inr differ ↦ elim (Contains-cons_cases place new one (Contains-permutation old (place ∷ new) one moved
      (was one (sym (get_or-set_other marks place one false false differ) ∙ mark)))) as (λ _. Contains new one) [
        | inl same ↦ absurd (differ (sym same))
        | inr rest ↦ rest
      ]
]
