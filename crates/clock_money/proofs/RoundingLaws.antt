-- A quotient rounded up is the least number whose product with the divisor is enough, and `div_ceil` computes it.
use Rattle.std.proofs.Common.{◌≡◌, ℕ, ◌+◌, ◌*◌, ◌<◌, ◌≤◌, ⊎_elim, arith}
use Rattle.std.proofs.Math.Nat.{mul-le-mul_left}
use Rattle.std.proofs.lemmas.Bool.{cases_lt}
use Rattle.std.proofs.lemmas.Grind.{div_ceil_times}
use Rattle.std.specs.Int.{div_ceil}
use Rattle.clock_money.specs.Price.{rounded_up, IsLeastWith}

enough : (n r : ℕ) → 0 < r → n ≤ r * rounded_up n r
enough n r h = omega arith

least : (n r m : ℕ) → 0 < r → n ≤ r * m → rounded_up n r ≤ m
least n r m h k = ⊎_elim (λ (above : m < rounded_up n r). let step : r * (m + 1) ≤ r * rounded_up n
    r = mul-le-mul_left r (omega arith) in absurd (omega arith)) (λ below. below) (cases_lt m (rounded_up n r))

pub rounded_up_least : (n r : ℕ) → 0 < r → IsLeastWith (λ k. n ≤ r * k) (rounded_up n r)
rounded_up_least n r h = (enough n r h, λ m k. least n r m h k)

-- two least numbers with the same property are equal
pub div_ceil_rounds_up : (n r : ℕ) → 0 < r → div_ceil n r ≡ rounded_up n r
div_ceil_rounds_up n r h =
    let bounds = div_ceil_times n r h in
    let least = rounded_up_least n r h in
    let low : rounded_up n r ≤ div_ceil n r = least.1 (div_ceil n r) (omega (arith, bounds.0)) in
    let high : div_ceil n r ≤ rounded_up n r =
    ⊎_elim
    (λ (above : rounded_up n r < div_ceil n r).
    let step : r * (rounded_up n r + 1) ≤ r * div_ceil n r = mul-le-mul_left r (omega (arith, above)) in
    absurd (omega (arith, step, least.0, bounds.1)))
    (λ below. below)
    (cases_lt (rounded_up n r) (div_ceil n r)) in
    omega (arith, low, high)
