-- Proves facts about a test or a function over consecutive numbers, by induction over their count.
use Rattle.std.proofs.Common.{◌≡◌, ℕ, zero, suc, ◌+◌, ◌-◌, ◌<◌, ◌≤◌, Bool, true, false, cond, Some, map, refl, ap, sym}
use Rattle.std.proofs.Common.{◌∙◌, arith, zero-add}
use Rattle.std.specs.Prelude.{All, Any}
use Rattle.std.specs.List.{list_any, range_with_len, position_from}
use Rattle.std.proofs.lemmas.List.FromFn.{length-range_with_len, get_or-range_with_len, length-map-range_with_len}
use Rattle.std.proofs.lemmas.List.FromFn.{get_or-map-range_with_len}
use Rattle.std.proofs.lemmas.List.Folds.{list_any_at, Any-from_list_any}

-- If no number passes the test, none of the list does.
pub none_in_range : (test : ℕ → Bool) (a n : ℕ) → ((k : ℕ) → a ≤ k → k < a + n → test k ≡ false)
    → list_any test (range_with_len a n) ≡ false
none_in_range test a zero fails = refl
none_in_range test a (suc n) fails = rw (fails a (omega arith) (omega arith))
    (none_in_range test (a + 1) n (λ k low high. fails k (omega arith) (omega arith)))

-- If a number passes the test, one of the list does.
pub one_in_range : (test : ℕ → Bool) (n k : ℕ) → k < n → test k ≡ true → list_any test (range_with_len 0 n) ≡ true
one_in_range test n k below passes = list_any_at test (range_with_len 0 n) k 0
    (omega (arith, length-range_with_len 0 n)) (ap test (get_or-range_with_len 0 n k 0 below ∙ zero-add k) ∙ passes)

-- A property of each value of a function is one of the list of its values.
pub all_in_range : {X : Type 0} (P : X → Type 0) (f : ℕ → X) (n : ℕ) → ((k : ℕ) → k < n → P (f k))
    → All P (map f (range_with_len 0 n))
all_in_range P f n holds = λ k d below.
    let in_range : k < n = omega (arith, length-map-range_with_len f 0 n) in
    rw (get_or-map-range_with_len f 0 n k k d in_range (zero-add k)) (holds k in_range)

-- A property of the value at each number that passes is one of some value in the list, if any number passes.
pub some_in_range : {X : Type 0} (P : X → Type 0) (f : ℕ → X) (test : ℕ → Bool) (n : ℕ) → ((k : ℕ) → k < n
    → test k ≡ true → P (f k)) → list_any test (range_with_len 0 n) ≡ true → Any P (map f (range_with_len 0 n))
some_in_range P f test n holds passes =
    let found = Any-from_list_any test (range_with_len 0 n) passes in
    let in_range : found.0 < n = omega (arith, length-range_with_len 0 n, found.2) in
    let is : found.1 ≡ found.0 =
    sym found.3 ∙ get_or-range_with_len 0 n found.0 found.1 in_range ∙ zero-add found.0 in (
      found.0,
      f found.0,
      omega (arith, length-map-range_with_len f 0 n),
      get_or-map-range_with_len f 0 n found.0 found.0 (f found.0) in_range (zero-add found.0),
      holds found.0 in_range (ap test (sym is) ∙ found.4),
    )

-- The first number from k, and below n, that passes: k itself, or the first after it.
range_from : (k n : ℕ) → k < n → range_with_len k (n - k) ≡ range_with_len k (suc (n - (k + 1)))
range_from k n below = let more : n - k ≡ suc (n - (k + 1)) = omega (arith, below) in ap (range_with_len k) more

pub first_is : (test : ℕ → Bool) (k n : ℕ) → k < n → test k ≡ true
    → position_from test k (range_with_len k (n - k)) ≡ Some k
first_is test k n below passes =
    ap (position_from test k) (range_from k n below)
    ∙ ap (λ b. cond b (Some k) (position_from test (k + 1) (range_with_len (k + 1) (n - (k + 1))))) passes

pub first_is_later : (test : ℕ → Bool) (k n : ℕ) → k < n → test k ≡ false →
    position_from test k (range_with_len k (n - k)) ≡ position_from test (k + 1) (range_with_len (k + 1) (n - (k + 1)))
first_is_later test k n below fails =
    ap (position_from test k) (range_from k n below)
    ∙ ap (λ b. cond b (Some k) (position_from test (k + 1) (range_with_len (k + 1) (n - (k + 1))))) fails
