-- Whether a request is for the current round.
--     IsCurrent now round      the auction has not ended, and the round is the current one
--     round_fault late other now round      the fault of a request for a round: `late` after the
--         end, or `other` for another round
use Rattle.std.specs.Prelude.{◌≡◌, ℕ, [], ◌∷◌, false, not, ◌==◌, Option}
use Rattle.clock_terms.specs.Faults.{first_fault}
use Rattle.clock_house.specs.PublicState.{PublicState}

-- The auction has not ended, and the round is the current one.
pub record IsCurrent (now : PublicState) (round : ℕ) : Type 0 where
  pub going : now.ended ≡ false
  pub number : round ≡ now.round

-- The fault of a request for a round, given the faults of one after the end and of another round.
abbrev pub round_fault : {F : Type 0} → F → (ℕ → F) → PublicState → ℕ → Option F
round_fault late other now round =
    first_fault ((late, not now.ended) ∷ (other now.round, round == now.round) ∷ [])
