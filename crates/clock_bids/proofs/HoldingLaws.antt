-- An activity limit of 100 percent, as in set-ups of version 1, is the eligibility itself.
use Rattle.std.proofs.Common.{◌≡◌, ℕ, ◌*◌, ◌/◌, ◌==◌, Bool, true, false, if◌then◌else◌, refl, ap, ◌∙◌, arith}
use Rattle.clock_terms.specs.Limits.{PublicSetup}
use Rattle.clock_bids.specs.Holding.{activity_limit}

-- an activity limit of 100 percent is the eligibility, in every round
pub activity_limit_of_100 : (setup : PublicSetup) (round eligibility : ℕ) → setup.limit ≡ 100
    → activity_limit setup round eligibility ≡ eligibility
activity_limit_of_100 setup round eligibility whole = by (round == 1)
  where
    by : (first : Bool) → (if first then eligibility else eligibility * setup.limit / 100) ≡ eligibility
    by true = refl
    by false = ap (λ limit. eligibility * limit / 100) whole ∙ omega arith
