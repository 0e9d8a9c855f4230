-- Laws of first faults: how the first fault of two lists of checks, or of a loop over items, follows from its parts.
use Rattle.std.proofs.Common.{◌≡◌, ℕ, ◌+◌, ◌<◌, ◌≤◌, Bool, true, false, List, [], ◌∷◌, ◌++◌, length, get_or, drop, Some}
use Rattle.std.proofs.Common.{None, refl, sym, ap, ◌∙◌}
use Rattle.std.proofs.lemmas.List.{drop_more, drop_all}
use Rattle.clock_terms.specs.Faults.{first_fault, in_turn}

-- if the first checks pass, the rest decide
pub passed : {F : Type 0} (checks rest : List (F × Bool)) → first_fault checks ≡ None
    → first_fault (checks ++ rest) ≡ first_fault rest
passed [] rest h = refl
passed ((fault, true) ∷ checks) rest h = passed checks rest h
passed ((fault, false) ∷ checks) rest h = cc

-- if one of the first checks fails, the first of these decides
pub failed : {F : Type 0} (checks rest : List (F × Bool)) (fault : F) → first_fault checks ≡ Some fault
    → first_fault (checks ++ rest) ≡ Some fault
failed [] rest fault h = cc
failed ((other, true) ∷ checks) rest fault h = failed checks rest fault h
failed ((other, false) ∷ checks) rest fault h = h

-- if no check of two lists fails, none of either fails
pub both_pass : {F : Type 0} (checks rest : List (F × Bool)) → first_fault (checks ++ rest) ≡ None
    → (first_fault checks ≡ None) × (first_fault rest ≡ None)
both_pass [] rest h = (refl, h)
both_pass ((fault, true) ∷ checks) rest h = both_pass checks rest h
both_pass ((fault, false) ∷ checks) rest h = cc

-- in a loop: the next item, x, passes
pub turn_passed : {X F : Type 0} (checks : ℕ → X → List (F × Bool)) (items : List X) (i : ℕ) (x : X) → i < length items
    → x ≡ get_or items i x → first_fault (checks i x) ≡ None
    → first_fault (in_turn checks i (drop i items)) ≡ first_fault (in_turn checks (i + 1) (drop (i + 1) items))
turn_passed checks items i x h at is =
    ap (λ rest. first_fault (in_turn checks i rest)) (drop_more items i x h)
    ∙ ap (λ y. first_fault (checks i y ++ in_turn checks (i + 1) (drop (i + 1) items))) (sym at)
    ∙ passed (checks i x) _ is

-- in a loop: the next item, x, fails
pub turn_failed : {X F : Type 0} (checks : ℕ → X → List (F × Bool)) (items : List X) (i : ℕ) (x : X) (fault : F)
    → i < length items → x ≡ get_or items i x → first_fault (checks i x) ≡ Some fault
    → first_fault (in_turn checks i (drop i items)) ≡ Some fault
turn_failed checks items i x fault h at is =
    ap (λ rest. first_fault (in_turn checks i rest)) (drop_more items i x h)
    ∙ ap (λ y. first_fault (checks i y ++ in_turn checks (i + 1) (drop (i + 1) items))) (sym at)
    ∙ failed (checks i x) _ fault is

-- in a loop: no item is left
pub turn_none : {X F : Type 0} (checks : ℕ → X → List (F × Bool)) (items : List X) (i : ℕ) → length items ≤ i
    → first_fault (in_turn checks i (drop i items)) ≡ None
turn_none checks items i h = ap (λ rest. first_fault (in_turn checks i rest)) (drop_all i items h)

pub ruleset fault_steps = (turn_passed, turn_failed, turn_none)

pub ruleset fault_lists = (passed, failed)
