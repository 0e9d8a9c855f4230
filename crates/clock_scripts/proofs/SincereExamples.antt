-- Sheets of a sincere bidder that wants one block up to 120 and another one up to 115.
use Rattle.std.proofs.Common.{◌≡◌, ℕ, List, [], ◌∷◌, refl}
use Rattle.clock_bids.specs.declared.sheet.Bid.{Bid}
use Rattle.clock_scripts.specs.Sincere.{bid_for, sincere_sheet}

abbrev sheet_at : ℕ → ℕ → ℕ → ℕ → List Bid
sheet_at round start clock held =
    sincere_sheet round (record { start = start; clock = clock } ∷ []) (held ∷ []) ((120 ∷ 115 ∷ []) ∷ [])

-- both are wanted at the opening price
wants_both : sheet_at 1 100 100 0 ≡ bid_for 0 2 100 ∷ []
wants_both = refl

-- both stay up to the clock price
keeps_both : sheet_at 2 100 110 2 ≡ bid_for 0 2 110 ∷ []
keeps_both = refl

-- one leaves at 115, the other one at 120
leaves_twice : sheet_at 3 110 121 2 ≡ bid_for 0 1 115 ∷ bid_for 0 0 120 ∷ []
leaves_twice = refl

-- a block is no longer wanted at the start price
leaves_at_start : sheet_at 3 118 119 2 ≡ bid_for 0 1 118 ∷ []
leaves_at_start = refl

-- both leave at one price
leaves_at_once : sheet_at 3 130 140 2 ≡ bid_for 0 0 130 ∷ []
leaves_at_once = refl

-- there is no processed demand
puts_nothing : sheet_at 3 110 121 0 ≡ []
puts_nothing = refl
