-- Proves that an accepted closing has passed all checks, and adds the round that they guard.
use Rattle.std.proofs.Common.{◌≡◌, ℕ, List, ◌∷◌, ◌++◌, Bool, true, false, not, ◌==◌, refl}
use Rattle.std.specs.Prelude.{Option, Some, None, Ok, Err, length}
use Rattle.clock_terms.specs.declared.increments.Increments.{Increments}
use Rattle.clock_terms.specs.Limits.{PublicSetup}
use Rattle.clock_terms.specs.Increments.{are_increments}
use Rattle.clock_terms.specs.Faults.{first_fault, unless}
use Rattle.clock_order.specs.declared.ties.Tie.{Tie}
use Rattle.clock_order.specs.declared.ties.TieFault.{TieFault}
use Rattle.clock_order.specs.Ties.{tie_fault}
use Rattle.clock_posting.specs.Posting.{price_limit_fault}
use Rattle.clock_closing.specs.declared.fault.CloseFault.{CloseFault}
use Rattle.clock_closing.specs.declared.fault.CloseFault.TheVariants as close_faults
use Rattle.clock_closing.specs.Faults.{fault_check}
use Rattle.clock_closing.specs.OpenRound.{OpenRound}
use Rattle.clock_closing.specs.Closing.{ClosedRound, round_result, closed_round, closing}

-- The auction has not ended, the round is the current one, increments and tie-breaking numbers have no fault, no next
-- clock price is too high, and the round added is the one of the rules.
pub record IsClosing (setup : PublicSetup) (now : OpenRound) (round : ℕ) (increments : Increments) (ties : List Tie)
    (closed : ClosedRound) : Type 0 where
  pub going : now.public_state.ended ≡ false
  pub current : (round == now.public_state.round) ≡ true
  pub within : are_increments (length setup.products) increments ≡ true
  pub fair : tie_fault (length now.holdings) (length setup.products) ties ≡ None
  pub possible : price_limit_fault setup.products (round_result setup.products now ties).grid
      (round_result setup.products now ties).posted increments ≡ None
  pub made : closed ≡ closed_round setup now increments (round_result setup.products now ties)

-- The checks of a closing, in order.
abbrev pub checks : Bool → Bool → Bool → ℕ → Option TieFault → Option ℕ → List (CloseFault × Bool)
checks ended current within round tied limit =
    (close_faults.Ended, not ended) ∷ (close_faults.WrongRound round, current) ∷ (close_faults.Increment, within)
    ∷ fault_check close_faults.Tie tied ++ fault_check close_faults.PriceLimit limit

abbrev Passed : Bool → Bool → Bool → Option TieFault → Option ℕ → ClosedRound → ClosedRound → Type 0
Passed ended current within tied limit made closed =
    (ended ≡ false) × (current ≡ true) × (within ≡ true) × (tied ≡ None) × (limit ≡ None) × (closed ≡ made)

passed : (ended current within : Bool) (round : ℕ) (tied : Option TieFault) (limit : Option ℕ)
    (made closed : ClosedRound) → unless (first_fault (checks ended current within round tied limit)) made ≡ Ok closed
    → Passed ended current within tied limit made closed
passed true current within round tied limit made closed e = let bad : Err close_faults.Ended ≡ Ok closed = e in cc
passed false false within round tied limit made closed e =
    let bad : Err (close_faults.WrongRound round) ≡ Ok closed = e in cc
passed false true false round tied limit made closed e = let bad : Err close_faults.Increment ≡ Ok closed = e in cc
passed false true true round (Some fault) limit made closed e =
    let bad : Err (close_faults.Tie fault) ≡ Ok closed = e in cc
passed false true true round None (Some product) made closed e =
    let bad : Err (close_faults.PriceLimit product) ≡ Ok closed = e in cc
passed false true true round None None made closed e = (refl, refl, refl, refl, refl, cc)

-- An accepted closing has passed all checks.
pub closing_passed : (setup : PublicSetup) (now : OpenRound) (round : ℕ) (increments : Increments) (ties : List Tie)
    (closed : ClosedRound) → closing setup now round increments ties ≡ Ok closed
    → IsClosing setup now round increments ties closed
closing_passed setup now round increments ties closed e =
    let tests : Passed now.public_state.ended (round == now.public_state.round) (are_increments (length setup.products)
    increments) (tie_fault (length now.holdings) (length setup.products) ties) (price_limit_fault setup.products
    (round_result setup.products now ties).grid (round_result setup.products now ties).posted increments)
    (closed_round setup now increments (round_result setup.products now ties)) closed = passed now.public_state.ended
    (round == now.public_state.round) (are_increments (length setup.products) increments) now.public_state.round
    (tie_fault (length now.holdings) (length setup.products) ties) (price_limit_fault setup.products
    (round_result setup.products now ties).grid (round_result setup.products now ties).posted increments)
    (closed_round setup now increments (round_result setup.products now ties)) closed e in
    record { going = tests.0; current = tests.1; within = tests.2; fair = tests.3; possible = tests.4; made = tests.5 }
