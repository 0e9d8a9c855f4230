-- Activity and eligibility, in bidding units. The rules are from the FCC's procedures for
-- Auction 105; rounding eligibility up is our own rule.
--     activity products demands      the activity of a row of demands
--     supported_eligibility activity requirement      the eligibility that an activity supports,
--         computed
--     IsSupported activity requirement eligibility      the same number, described
--     SupportsTheLeast      the law that the computed number is the described one
--     next_eligibility held activity requirement      the eligibility after a round
use Rattle.std.specs.Prelude.{◌≡◌, ℕ, ◌*◌, ◌≤◌, ◌↔◌, List, min, sum_by, zip}
use Rattle.clock_money.specs.Price.{rounded_up, IsLeastWith}
use Rattle.clock_terms.specs.declared.setup.Product.{Product}

-- bidding units times demand, added up over the products
abbrev pub activity : List Product → List ℕ → ℕ
activity products demands = sum_by (λ line. line.0.units * line.1) (zip products demands)

-- the eligibility that an activity supports: activity / required percentage, rounded up
abbrev pub supported_eligibility : ℕ → ℕ → ℕ
supported_eligibility activity requirement = rounded_up (100 * activity) requirement

-- The eligibility that an activity supports: the least whole number whose required percentage is at
-- least the activity. With 95 percent, an activity of 30 supports 32: 95 percent of 32 is 30.4, and
-- of 31 only 29.45.
abbrev pub IsSupported : ℕ → ℕ → ℕ → Type 0
IsSupported activity requirement eligibility =
    IsLeastWith (λ enough. 100 * activity ≤ requirement * enough) eligibility

-- For every requirement above 0, the number that supported_eligibility computes is the one that
-- IsSupported describes, and the only one.
abbrev pub SupportsTheLeast : Type 0
SupportsTheLeast = (activity requirement eligibility : ℕ) → 1 ≤ requirement → (supported_eligibility
    activity requirement ≡ eligibility) ↔ IsSupported activity requirement eligibility

-- The smaller of the eligibility before the round and the supported one: eligibility never rises.
abbrev pub next_eligibility : ℕ → ℕ → ℕ → ℕ
next_eligibility held activity requirement = min held (supported_eligibility activity requirement)
