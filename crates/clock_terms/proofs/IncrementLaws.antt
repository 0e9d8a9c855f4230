-- What valid increments say of each product, and that a single increment is the same as a list that repeats it.
use Rattle.std.proofs.Common.{◌≡◌, ℕ, ◌<◌, ◌&&◌, Bool, true, false, length, replicate, slice_index_or, zero, suc, refl}
use Rattle.std.proofs.Common.{ap, ◌∙◌, arith}
use Rattle.std.specs.List.{list_all}
use Rattle.std.proofs.lemmas.Bool.{and_parts, eqb-true, eq-eqb}
use Rattle.std.proofs.lemmas.List.{get_or-replicate, length-replicate}
use Rattle.std.proofs.lemmas.List.Sums.{AllPass-from_list_all}
use Rattle.clock_terms.specs.declared.increments.Increments.{Increments}
use Rattle.clock_terms.specs.declared.increments.Increments.TheVariants.{Single, PerProduct}
use Rattle.clock_terms.specs.Limits.{least_increment, most_increment}
use Rattle.clock_terms.specs.Increments.{increment_at, HasIncrement, IsIncrement, is_increment, AreIncrements}
use Rattle.clock_terms.specs.Increments.{are_increments}
use Rattle.clock_terms.proofs.WithinLaws.{within_of_test}

-- each product has an increment
pub increment_there : (count : ℕ) (increments : Increments) (product : ℕ) → AreIncrements count increments
    → product < count → HasIncrement increments product
increment_there count (Single increment) product are within = tt
increment_there count (PerProduct increments) product are within = omega (arith, are.0, within)

-- each product's increment is 1 to 50 percent
pub increment_within : (count : ℕ) (increments : Increments) (product : ℕ) → AreIncrements count increments
    → product < count → IsIncrement (increment_at increments product)
increment_within count (Single increment) product are within = are
increment_within count (PerProduct increments) product are within = are.1 product 0 (omega (arith, are.0, within))

-- increments that pass the test are valid
pub increments_of_test : (count : ℕ) (increments : Increments) → are_increments count increments ≡ true
    → AreIncrements count increments
increments_of_test count (Single increment) h = within_of_test least_increment most_increment increment h
increments_of_test count (PerProduct increments) h =
    let parts = and_parts _ _ h in
    let each = AllPass-from_list_all is_increment increments parts.1 in (
      eqb-true (length increments) count parts.0,
      λ k d within. within_of_test least_increment most_increment (slice_index_or increments k d) (each k d within),
    )

-- a single increment gives each product the same percentage as a list that repeats it
pub one_for_each : (count increment product : ℕ) → product < count
    → increment_at (PerProduct (replicate count increment)) product ≡ increment_at (Single increment) product
one_for_each count increment product within = get_or-replicate count product increment 0 within

all_the_same : (increment : ℕ) (more : ℕ)
    → list_all is_increment (replicate (suc more) increment) ≡ is_increment increment
all_the_same increment zero = and_true (is_increment increment)
  where
    and_true : (b : Bool) → (b && true) ≡ b
    and_true true = refl
    and_true false = refl
all_the_same increment (suc more) =
    ap (λ rest. is_increment increment && rest) (all_the_same increment more) ∙ and_same (is_increment increment)
  where
    and_same : (b : Bool) → (b && b) ≡ b
    and_same true = refl
    and_same false = refl

-- the test refuses a single increment exactly if it refuses that list
pub one_as_each : (increment more : ℕ) → are_increments (suc more) (PerProduct (replicate (suc more) increment))
    ≡ are_increments (suc more) (Single increment)
one_as_each increment more =
    ap (λ same. same && list_all is_increment (replicate (suc more) increment))
    (eq-eqb (length (replicate (suc more) increment)) (suc more) (length-replicate (suc more) increment))
    ∙ all_the_same increment more
