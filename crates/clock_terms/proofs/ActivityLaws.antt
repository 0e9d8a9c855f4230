-- How activity changes with one demand, and that an activity supports exactly one eligibility.
use Rattle.std.proofs.Common.{◌≡◌, ℕ, zero, suc, ◌+◌, ◌*◌, ◌<◌, ◌≤◌, List, [], ◌∷◌, length, arith, get_or, set, subst}
use Rattle.std.specs.Prelude.{zip}
use Rattle.std.proofs.lemmas.List.Sums.{sum_by-cons}
use Rattle.clock_terms.specs.declared.setup.Product.{Product}
use Rattle.clock_terms.specs.Limits.{units_of}
use Rattle.clock_money.proofs.RoundingLaws.{rounded_up_least}
use Rattle.clock_terms.specs.Eligibility.{activity, IsSupported, SupportsTheLeast, supported_eligibility}

-- replacing one demand changes activity by its units times the difference
pub activity-set : (products : List Product) (row : List ℕ) (p v : ℕ) → p < length products → p < length row → activity
    products (set row p v) + units_of products p * get_or row p 0 ≡ activity products row + units_of products p * v
activity-set [] row p v a b = absurd (omega (arith, a))
activity-set (x ∷ products) [] p v a b = absurd (omega (arith, b))
activity-set (x ∷ products) (y ∷ row) zero v a b =
    omega (
      arith,
      sum_by-cons (λ (line : Product × ℕ). line.0.units * line.1) (x, v) (zip products row),
      sum_by-cons (λ (line : Product × ℕ). line.0.units * line.1) (x, y) (zip products row),
    )
activity-set (x ∷ products) (y ∷ row) (suc p) v a b =
    omega (
      arith,
      activity-set products row p v (omega (arith, a)) (omega (arith, b)),
      sum_by-cons (λ (line : Product × ℕ). line.0.units * line.1) (x, y) (zip products row),
      sum_by-cons (λ (line : Product × ℕ). line.0.units * line.1) (x, y) (zip products (set row p v)),
    )

-- one demand's bidding units are at most the activity of the row
pub demand_taken : (products : List Product) (row : List ℕ) (p : ℕ) → p < length products → p < length row →
    units_of products p * get_or row p 0 ≤ activity products row
demand_taken products row p a b = omega (arith, activity-set products row p 0 a b)

-- the computed eligibility is the least that supports the activity; two least numbers are equal
pub supports_the_least : SupportsTheLeast
supports_the_least used requirement eligibility some =
    let least = rounded_up_least (100 * used) requirement (omega (arith, some)) in (
      λ same. subst (IsSupported used requirement) same least,
      λ is. omega (arith, least.1 eligibility is.0, is.1 (supported_eligibility used requirement) least.0),
    )
