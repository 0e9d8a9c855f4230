-- With a granule of one dollar, as in set-ups of version 1, the clock price is the least whole price that is high
-- enough.
use Rattle.std.proofs.Common.{◌≡◌, ℕ, ◌+◌, ◌*◌, ◌≤◌, Some, arith}
use Rattle.std.specs.Prelude.{◌↔◌}
use Rattle.clock_money.specs.Price.{IsLeastWith, IsHighEnough, IsRaised, highest_price, raise}
use Rattle.clock_money.proofs.Raising.{raises_to_the_least}

high_enough : (start percent price : ℕ) → start * (100 + percent) ≤ 100 * price → IsHighEnough start percent 1 price
high_enough start percent price h = ((price, omega arith), h)

-- every whole price is a multiple of one dollar, so IsRaised is about whole prices
is_raised_by_dollars : (start percent price : ℕ)
    → IsRaised start percent 1 price ↔ IsLeastWith (λ q. start * (100 + percent) ≤ 100 * q) price
is_raised_by_dollars start percent price = (
  λ is. (is.0.1, λ q h. is.1 q (high_enough start percent q h)),
  λ is. (high_enough start percent price is.0, λ q h. is.1 q h.1),
)

-- `raise` gives this price if it is at most the highest price
pub raises_by_dollars : (start percent price : ℕ) → (raise start percent 1 ≡ Some price)
    ↔ (IsLeastWith (λ q. start * (100 + percent) ≤ 100 * q) price × (price ≤ highest_price))
raises_by_dollars start percent price =
    let law = raises_to_the_least start percent 1 price (omega arith) in
    let dollars = is_raised_by_dollars start percent price in
    (λ given. let is = law.0 given in (dollars.0 is.0, is.1), λ is. law.1 (dollars.1 is.0, is.1))
