-- Proves that the activity is within the next eligibility, since that is rounded up.
use Rattle.std.proofs.Common.{ℕ, ◌+◌, ◌*◌, ◌-◌, ◌<◌, ◌≤◌, arith}
use Rattle.std.proofs.Math.Nat.{mul-le-mul_left, le-div_iff_mul-le}
use Rattle.clock_money.specs.Price.{rounded_up}
use Rattle.clock_terms.specs.Eligibility.{next_eligibility, supported_eligibility}

-- A quotient that is rounded up is at least every number whose product with the divisor fits.
at_least : (r over a : ℕ) → 1 ≤ r → r * a ≤ over → a ≤ rounded_up over r
at_least r over a some most =
    let above : 0 < r = omega (arith, some) in
    let fits : a * r ≤ over + (r - 1) = omega (arith, most) in
    (le-div_iff_mul-le {k = r} {x = a} {y = over + (r - 1)} above).1 fits

-- An activity is within the eligibility that it supports.
supported : (a r : ℕ) → 1 ≤ r → r ≤ 100 → a ≤ supported_eligibility a r
supported a r some most =
    at_least r (100 * a) a some (let h : a * r ≤ a * 100 = mul-le-mul_left a most in omega (arith, h))

pub next_eligibility_within : (held a r : ℕ) → a ≤ held → 1 ≤ r → r ≤ 100
    → (a ≤ next_eligibility held a r) × (next_eligibility held a r ≤ held)
next_eligibility_within held a r within some most =
    (let h : a ≤ supported_eligibility a r = supported a r some most in omega (arith, h, within), omega arith)
