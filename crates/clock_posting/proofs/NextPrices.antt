-- Proves that next prices rise and are not too high if no product is at the price limit, product by product.
use Rattle.std.proofs.Common.{◌≡◌, ℕ, ◌+◌, ◌<◌, ◌≤◌, List, [], ◌∷◌, Bool, true, false, cond, length, get_or, refl, ap}
use Rattle.std.proofs.Common.{sym, ◌∙◌, arith, zero-add, All}
use Rattle.std.specs.Prelude.{Option, Some, None, is_none, nat_le, if◌then◌else◌, unwrap_or}
use Rattle.std.specs.List.{position_from, range_with_len}
use Rattle.std.proofs.lemmas.Bool.{leb-true}
use Rattle.std.proofs.lemmas.List.FromFn.{length-range_with_len, get_or-range_with_len}
use Rattle.std.proofs.lemmas.List.Elements.{All-nil, All-cons}
use Rattle.clock_money.specs.Price.{highest_price, raised}
use Rattle.clock_money.proofs.Raising.{above-raised}
use Rattle.clock_terms.specs.declared.increments.Increments.{Increments}
use Rattle.clock_terms.specs.declared.setup.Product.{Product}
use Rattle.clock_terms.specs.declared.prices.PricePair.{PricePair}
use Rattle.clock_terms.specs.Limits.{IsProduct, granule_of, no_product}
use Rattle.clock_terms.specs.Increments.{AreIncrements, increment_at}
use Rattle.clock_terms.proofs.IncrementLaws.{increment_within}
use Rattle.clock_posting.specs.inside.Parts.{first_at_limit}
use Rattle.clock_posting.specs.Posting.{next_clock, next_price, next_prices, IsRising}
use Rattle.clock_posting.proofs.Ranges.{all_in_range}

-- If no number is the first to pass a test, none passes it.
none_passes_from : (test : ℕ → Bool) (i x : ℕ) (xs : List ℕ) (b : Bool) (rest : Option ℕ) → test x ≡ b →
    (rest ≡ None → All (λ y. test y ≡ false) xs) → cond b (Some i) rest ≡ None → All (λ y. test y ≡ false) (x ∷ xs)
none_passes_from test i x xs true rest is later none = cc
none_passes_from test i x xs false rest is later none = All-cons (λ y. test y ≡ false) x xs is (later none)

none_passes : (test : ℕ → Bool) (i : ℕ) (xs : List ℕ) → position_from test i xs ≡ None → All (λ x. test x ≡ false) xs
none_passes test i [] none = All-nil (λ x. test x ≡ false)
none_passes test i (x ∷ xs) none =
    none_passes_from test i x xs (test x) (position_from test (i + 1) xs) refl (none_passes test (i + 1) xs) none

-- A choice that is some was made.
kept : (b : Bool) (x : ℕ) → is_none (if b then Some x else None) ≡ false → b ≡ true
kept true x is = refl
kept false x is = cc

value_of : (b : Bool) (x : ℕ) → is_none (if b then Some x else None) ≡ false
    → unwrap_or (if b then Some x else None) 0 ≡ x
value_of true x is = refl
value_of false x is = cc

module _ (products : List Product) (increments : Increments) (posted : List ℕ)
    (none : first_at_limit products increments posted ≡ None) where
  -- Each product has a next clock price.
  has_next : (k : ℕ) → k < length products → is_none (next_clock products increments posted k) ≡ false
  has_next k below =
      let test = λ (product : ℕ). is_none (next_clock products increments posted product) in
      let at = none_passes test 0 (range_with_len 0 (length products)) none k 0
      (omega (arith, below, length-range_with_len 0 (length products))) in
      ap test (sym (get_or-range_with_len 0 (length products) k 0 below ∙ zero-add k)) ∙ at

  abbrev raised_at : ℕ → ℕ
  raised_at k = raised (get_or posted k 0) (increment_at increments k) (granule_of products k)

  clock_is : (k : ℕ) → k < length products → (next_price products increments posted k).clock ≡ raised_at k
  clock_is k below = value_of (nat_le (raised_at k) highest_price) (raised_at k) (has_next k below)

  -- Next clock prices are above the next start-of-round prices.
  pub next_rising : AreIncrements (length products) increments → All IsProduct products → length posted
      ≡ length products → All (λ price. 1 ≤ price) posted → All IsRising (next_prices products increments posted)
  next_rising are limits each some =
      all_in_range IsRising (next_price products increments posted) (length products)
      (λ k below. omega (
        arith,
        clock_is k below,
        above-raised (get_or posted k 0) (increment_at increments k) (granule_of products k)
            (some k 0 (omega (arith, each, below))) (increment_within (length products) increments k are below).0
            (limits k no_product below).granule.0,
      ))

  -- They are not above the highest price.
  pub next_within : All (λ (pair : PricePair). pair.clock ≤ highest_price) (next_prices products increments posted)
  next_within = all_in_range (λ (pair : PricePair). pair.clock ≤ highest_price) (next_price products increments posted)
      (length products) (λ k below. omega (
        arith,
        clock_is k below,
        leb-true (raised_at k) highest_price
            (kept (nat_le (raised_at k) highest_price) (raised_at k) (has_next k below)),
      ))
