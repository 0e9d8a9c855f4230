-- Only lists of three values are tie-breaking numbers.
use Rattle.std.proofs.Common.{◌≡◌, List, [], ◌∷◌, length, None, refl}
use Rattle.serde_json.specs.View.{items_view}
use Rattle.serde_json.specs.declared.value.Value.{Value}
use Rattle.clock_bodies.specs.CloseBodies.{tie_from}

-- a list of another length than three is not a tie-breaking number
pub no_tie : (items : List Value) → (length items ≡ 3 → ⊥) → tie_from (items_view items) ≡ None
no_tie [] other = refl
no_tie (a ∷ []) other = refl
no_tie (a ∷ (b ∷ [])) other = refl
no_tie (a ∷ (b ∷ (c ∷ []))) other = absurd (other refl)
no_tie (a ∷ (b ∷ (c ∷ (d ∷ items)))) other = refl
