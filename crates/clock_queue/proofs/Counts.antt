-- An application makes ready at most most_woken requests.
use Rattle.std.proofs.Common.{◌≡◌, ℕ, zero, suc, ◌*◌, ◌<◌, ◌≤◌, List, [], ◌∷◌, Bool, true, cond}
use Rattle.std.proofs.Common.{refl, ap, arith, get_or, length, eq-eqb, inl, inr, ◌⊎◌}
use Rattle.std.specs.Prelude.{max, count_by, ◌==◌}
use Rattle.std.specs.List.{fold}
use Rattle.std.proofs.Math.Nat.{mul-le-mul_left}
use Rattle.std.proofs.lemmas.List.Sums.{sum_by-cons}
use Rattle.clock_terms.specs.declared.change.Change.{Change}
use Rattle.clock_terms.specs.declared.change.Kind.{Kind}
use Rattle.clock_terms.specs.declared.change.Kind.TheVariants.{Increase, Reduction}
use Rattle.clock_processor.specs.Settling.{no_change}
use Rattle.clock_queue.specs.inside.Lines.{line_of, line_by, product_line, bidder_line}
use Rattle.clock_queue.specs.Bound.{most_of_one, most_woken, count_of_product, count_of_bidder, BoundsEachLine}

-- a running maximum is at least its start, and at least each value
fold_start : {X : Type 0} (f : X → ℕ) (a : ℕ) (xs : List X) → a ≤ fold (λ most x. max most (f x)) a xs
fold_start f a [] = omega arith
fold_start f a (x ∷ xs) = omega (arith, fold_start f (max a (f x)) xs)

fold_value : {X : Type 0} (f : X → ℕ) (a : ℕ) (xs : List X) (i : ℕ) (d : X) → i < length xs
    → f (get_or xs i d) ≤ fold (λ most x. max most (f x)) a xs
fold_value f a [] i d lt = absurd (omega (arith, lt))
fold_value f a (x ∷ xs) zero d lt = omega (arith, fold_start f (max a (f x)) xs)
fold_value f a (x ∷ xs) (suc i) d lt = fold_value f (max a (f x)) xs i d (omega (arith, lt))

-- the number of requests of the product of a request, or of its bidder if that is more
abbrev greater_of : List Change → Change → ℕ
greater_of changes change = max (count_of_product changes change.product) (count_of_bidder changes change.bidder)

of_product : (changes : List Change) (i : ℕ) → i < length changes
    → count_of_product changes (get_or changes i no_change).product ≤ most_of_one changes
of_product changes i lt = omega (arith, fold_value (greater_of changes) 0 changes i no_change lt)

of_bidder : (changes : List Change) (i : ℕ) → i < length changes
    → count_of_bidder changes (get_or changes i no_change).bidder ≤ most_of_one changes
of_bidder changes i lt = omega (arith, fold_value (greater_of changes) 0 changes i no_change lt)

-- one element that passes counts as 1, and two as 2
counted_here : (b : Bool) → b ≡ true → ◌≡◌ {A = ℕ} (cond b 1 0) 1
counted_here b is = ap (λ (v : Bool). cond {A = ℕ} v 1 0) is

one_counted : {X : Type 0} (p : X → Bool) (xs : List X) (i : ℕ) (d : X) → i < length xs
    → p (get_or xs i d) ≡ true → 1 ≤ count_by p xs
one_counted p [] i d lt passes = absurd (omega (arith, lt))
one_counted p (x ∷ xs) zero d lt passes =
    omega (arith, sum_by-cons (λ y. cond (p y) 1 0) x xs, counted_here (p x) passes)
one_counted p (x ∷ xs) (suc i) d lt passes =
    omega (arith, sum_by-cons (λ y. cond (p y) 1 0) x xs, one_counted p xs i d (omega (arith, lt)) passes)

two_counted : {X : Type 0} (p : X → Bool) (xs : List X) (i j : ℕ) (d : X) → i < length xs → j < length xs → (i ≡ j → ⊥)
    → p (get_or xs i d) ≡ true → p (get_or xs j d) ≡ true → 2 ≤ count_by p xs
two_counted p [] i j d lt lt' differ passes passes' = absurd (omega (arith, lt))
two_counted p (x ∷ xs) zero zero d lt lt' differ passes passes' = absurd (differ refl)
two_counted p (x ∷ xs) zero (suc j) d lt lt' differ passes passes' =
    omega (
      arith,
      sum_by-cons (λ y. cond (p y) 1 0) x xs,
      counted_here (p x) passes,
      one_counted p xs j d (omega (arith, lt')) passes',
    )
two_counted p (x ∷ xs) (suc i) zero d lt lt' differ passes passes' =
    omega (
      arith,
      sum_by-cons (λ y. cond (p y) 1 0) x xs,
      counted_here (p x) passes',
      one_counted p xs i d (omega (arith, lt)) passes,
    )
two_counted p (x ∷ xs) (suc i) (suc j) d lt lt' differ passes passes' =
    omega (
      arith,
      sum_by-cons (λ y. cond (p y) 1 0) x xs,
      two_counted p xs i j d (omega (arith, lt)) (omega (arith, lt')) (λ e. differ (ap suc e)) passes passes',
    )

-- a request is one of its bidder
pub some_of_one : (changes : List Change) (i : ℕ) → i < length changes → 1 ≤ most_of_one changes
some_of_one changes i lt = omega (
  arith,
  of_bidder changes i lt,
  one_counted (λ (change : Change). change.bidder == (get_or changes i no_change).bidder) changes i no_change lt
      (eq-eqb (get_or changes i no_change).bidder (get_or changes i no_change).bidder refl),
)

-- two requests of one product, or of one bidder, make most_of_one at least 2
two_of : (f : Change → ℕ) (changes : List Change) → ((i : ℕ) → i < length changes → count_by (λ change. f change == f
    (get_or changes i no_change)) changes ≤ most_of_one changes) → (i j : ℕ) → i < length changes → j < length changes
    → (i ≡ j → ⊥) → f (get_or changes j no_change) ≡ f (get_or changes i no_change) → 2 ≤ most_of_one changes
two_of f changes most i j lt lt' differ same = omega (
  arith,
  most i lt,
  two_counted (λ change. f change == f (get_or changes i no_change)) changes i j no_change lt lt' differ
      (eq-eqb (f (get_or changes i no_change)) (f (get_or changes i no_change)) refl)
      (eq-eqb (f (get_or changes j no_change)) (f (get_or changes i no_change)) same),
)

-- a request that waits for a product is for it, and one that waits for a bidder is the bidder's
product_of : (kind : Kind) (b q p : ℕ) → line_by kind b q ≡ product_line p → q ≡ p
product_of Reduction b q p own = omega (arith, own)
product_of Increase b q p own = absurd (omega (arith, own))

bidder_of : (kind : Kind) (b q c : ℕ) → line_by kind b q ≡ bidder_line c → b ≡ c
bidder_of Increase b q c own = omega (arith, own)
bidder_of Reduction b q c own = absurd (omega (arith, own))

-- a request waits for its product or for its bidder
pub own_by : (kind : Kind) (b p : ℕ) → (line_by kind b p ≡ product_line p) ⊎ (line_by kind b p ≡ bidder_line b)
own_by Reduction b p = inl refl
own_by Increase b p = inr refl

-- If one request waits for a request's product and another for its bidder, two are of the product or of the bidder.
pub two_of_one : (changes : List Change) (i x y : ℕ) → i < length changes → x < length changes → y < length changes →
    line_of (get_or changes x no_change) ≡ product_line (get_or changes i no_change).product →
    line_of (get_or changes y no_change) ≡ bidder_line (get_or changes i no_change).bidder → 2 ≤ most_of_one changes
two_of_one changes i x y lt x_in y_in of_x of_y =
    let one : Change = get_or changes i no_change in
    let at_x : Change = get_or changes x no_change in
    let at_y : Change = get_or changes y no_change in
    elim (own_by one.kind one.bidder one.product) as (λ _. 2 ≤ most_of_one changes) [
      | inl product ↦ two_of (λ change. change.bidder) changes (of_bidder changes) i y lt y_in
          (λ e. omega (arith, product, of_y, ap (λ n. line_of (get_or changes n no_change)) e))
          (bidder_of at_y.kind at_y.bidder at_y.product one.bidder of_y)
      | inr bidder ↦ two_of (λ change. change.product) changes (of_product changes) i x lt x_in
          (λ e. omega (arith, bidder, of_x, ap (λ n. line_of (get_or changes n no_change)) e))
          (product_of at_x.kind at_x.bidder at_x.product one.product of_x)
    ]

-- The bound implies two simpler ones: for each application at most two tests, and at most m if no product and no bidder
-- has more than m requests.
pub each_line : BoundsEachLine
each_line changes end within =
    let few : end.applied * most_woken changes ≤ end.applied * most_of_one changes =
    mul-le-mul_left end.applied (omega arith) in
    let two : end.applied * most_woken changes ≤ end.applied * 2 = mul-le-mul_left end.applied (omega arith) in
    (omega (arith, within, few), omega (arith, within, two))
