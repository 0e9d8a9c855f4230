-- `raise` computes the clock price that IsRaised describes: rounding up to dollars and then to granules gives the least
-- multiple of the granule that is high enough. It is above the start-of-round price.
use Rattle.std.proofs.Common.{◌≡◌, ℕ, ◌+◌, ◌*◌, ◌<◌, ◌≤◌, Bool, true, false, Some, None, refl, ap, subst, ◌∙◌, arith}
use Rattle.std.specs.Prelude.{IfSome, IfNone, nat_le, if◌then◌else◌}
use Rattle.std.proofs.lemmas.Bool.{leb-false, leb-true, le-leb}
use Rattle.std.proofs.lemmas.Option.{cond_some}
use Rattle.std.proofs.Math.Nat.{mul-le-mul, mul-le-mul_left}
use Rattle.clock_money.specs.Price.{rounded_up, IsHighEnough, IsRaised, RaisesToTheLeast, highest_price, raise, raised}
use Rattle.clock_money.proofs.RoundingLaws.{rounded_up_least}

-- a whole price is at least over / 100 exactly if it is at least this quotient rounded up
whole : (over price : ℕ) → over ≤ 100 * price → rounded_up over 100 ≤ price
whole over price h = omega (arith, h)

high_enough : (over price : ℕ) → rounded_up over 100 ≤ price → over ≤ 100 * price
high_enough over price h = omega (arith, h)

lowest : (start percent granule m : ℕ) → 1 ≤ granule → IsHighEnough start percent granule m
    → raised start percent granule ≤ m
lowest start percent granule m some h =
    let over = start * (100 + percent) in
    let needed : rounded_up over 100 ≤ granule * h.0.0 = omega (arith, whole over m h.1, h.0.1) in
    let count = (rounded_up_least (rounded_up over 100) granule (omega (arith, some))).1 h.0.0 needed in
    let product : granule * rounded_up (rounded_up over 100) granule ≤ granule * h.0.0 =
    mul-le-mul_left granule count in
    omega (arith, product, h.0.1)

pub raised_is_raised : (start percent granule : ℕ) → 1 ≤ granule
    → IsRaised start percent granule (raised start percent granule)
raised_is_raised start percent granule some =
    let over = start * (100 + percent) in
    let enough = (rounded_up_least (rounded_up over 100) granule (omega (arith, some))).0 in (
      ((rounded_up (rounded_up over 100) granule, refl), high_enough over (raised start percent granule) enough),
      λ m h. lowest start percent granule m some h,
    )

-- the clock price is above the start-of-round price
pub above-raised : (start percent granule : ℕ) → 1 ≤ start → 1 ≤ percent → 1 ≤ granule
    → start < raised start percent granule
above-raised start percent granule some rise unit =
    let parts : start * (100 + percent) ≡ 100 * start + start * percent = omega arith in
    let more : 1 ≤ start * percent = mul-le-mul some rise in
    omega (arith, parts, more, (raised_is_raised start percent granule unit).0.1)

-- if `raise` gives a price, it is the clock price; if it gives none, every clock price is above the highest price
some_price : (P : ℕ → Type 0) (price : ℕ) (b : Bool) → P price → IfSome (if b then Some price else None) P
some_price P price true is = is
some_price P price false is = tt

pub raise_some : (start percent granule : ℕ) → 1 ≤ granule
    → IfSome (raise start percent granule) (IsRaised start percent granule)
raise_some start percent granule unit = some_price (IsRaised start percent granule) (raised start percent granule)
    (nat_le (raised start percent granule) highest_price) (raised_is_raised start percent granule unit)

no_price : (price : ℕ) (P : Type 0) (b : Bool) → nat_le price highest_price ≡ b → (highest_price < price → P)
    → IfNone (if b then Some price else None) P
no_price price P true is holds = tt
no_price price P false is holds = holds (leb-false price highest_price is)

pub raise_none : (start percent granule : ℕ) → 1 ≤ granule
    → IfNone (raise start percent granule) ((price : ℕ) → IsRaised start percent granule price → highest_price < price)
raise_none start percent granule unit =
    no_price (raised start percent granule) ((price : ℕ) → IsRaised start percent granule price → highest_price < price)
    (nat_le (raised start percent granule) highest_price) refl
    (λ high price is. omega (arith, high, lowest start percent granule price unit is.0))

-- a price that `raise` gives is the clock price, and at most the highest price
is_least : (start percent granule price : ℕ) → 1 ≤ granule → raise start percent granule ≡ Some price
    → IsRaised start percent granule price × (price ≤ highest_price)
is_least start percent granule price unit given =
    let both =
    cond_some (nat_le (raised start percent granule) highest_price) (raised start percent granule) price given in
    subst (λ p. IsRaised start percent granule p × (p ≤ highest_price)) both.1
    (raised_is_raised start percent granule unit, leb-true (raised start percent granule) highest_price both.0)

-- there is only one least price, and `raise` gives it if it is at most the highest price
is_given : (start percent granule price : ℕ) → 1 ≤ granule → IsRaised start percent granule price
    → price ≤ highest_price → raise start percent granule ≡ Some price
is_given start percent granule price unit is high =
    let least = raised_is_raised start percent granule unit in
    let same : raised start percent granule ≡ price =
    omega (arith, least.1 price is.0, is.1 (raised start percent granule) least.0) in
    ap (λ b. if b then Some (raised start percent granule) else None)
    (le-leb (raised start percent granule) highest_price (omega (arith, same, high)))
    ∙ ap (λ p. Some p) same

pub raises_to_the_least : RaisesToTheLeast
raises_to_the_least start percent granule price unit =
    (is_least start percent granule price unit, λ is. is_given start percent granule price unit is.0 is.1)
