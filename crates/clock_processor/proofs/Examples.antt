-- An example of bid processing: two products A and B with two blocks each, and bidders X, Y, and Z after the first
-- round.
use Rattle.std.specs.Prelude.{◌≡◌, ℕ, List, [], ◌∷◌, refl}
use Rattle.clock_terms.proofs.Examples.{two_products, request}
use Rattle.clock_terms.specs.declared.change.Change.{Change}
use Rattle.clock_terms.specs.declared.change.Kind.TheVariants.{Increase, Reduction}
use Rattle.clock_processor.specs.Settling.{Progress, settled}

-- X demands two blocks of B, Y two of A, and Z one of B
abbrev before : List (List ℕ)
before = (0 ∷ 2 ∷ []) ∷ (2 ∷ 0 ∷ []) ∷ (0 ∷ 1 ∷ []) ∷ []

abbrev ending : List Change → Progress
ending changes = settled two_products.products (2 ∷ 2 ∷ 1 ∷ []) changes before

abbrev Ends : List Change → List (List ℕ) → List ℕ → ℕ → Type 0
Ends changes grid left applied =
    ((ending changes).grid ≡ grid) × ((ending changes).left ≡ left) × ((ending changes).applied ≡ applied)

abbrev y_reduces_a : Change
y_reduces_a = request Reduction 1 0 0 1 102

abbrev x_raises_a : Change
x_raises_a = request Increase 0 0 0 1 104

-- X's reduction has room at once. It makes room for X's increase, which makes room for Y's reduction.
waiting_requests_are_applied_later : Ends (y_reduces_a ∷ x_raises_a ∷ request Reduction 0 1 0 1 106 ∷ [])
    ((1 ∷ 1 ∷ []) ∷ (1 ∷ 0 ∷ []) ∷ (0 ∷ 1 ∷ []) ∷ []) (0 ∷ 0 ∷ 0 ∷ []) 3
waiting_requests_are_applied_later = (refl, refl, refl)

no_request_without_room_is_applied : Ends (y_reduces_a ∷ x_raises_a ∷ []) before (1 ∷ 1 ∷ []) 0
no_request_without_room_is_applied = (refl, refl, refl)

no_requests_change_nothing : Ends [] before [] 0
no_requests_change_nothing = (refl, refl, refl)

total_stops_at_supply : Ends (request Reduction 2 1 0 1 100 ∷ request Reduction 0 1 0 2 106 ∷ [])
    ((0 ∷ 2 ∷ []) ∷ (2 ∷ 0 ∷ []) ∷ (0 ∷ 0 ∷ []) ∷ []) (0 ∷ 2 ∷ []) 1
total_stops_at_supply = (refl, refl, refl)
