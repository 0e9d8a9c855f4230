-- Laws of digits that are counted sixteen at a time.
use Rattle.std.proofs.Common.{◌≡◌, ◌≤◌, ◌<◌, ◌+◌, ◌-◌, ◌*◌, ◌^◌, ◌%◌, Bool, not, false, cond, ltb, map, replicate, ℕ}
use Rattle.std.proofs.Common.{zero, suc, List, length, take, drop, get_or, refl, sym, ap, ◌∙◌, subst, arith, ⊎_elim}
use Rattle.std.proofs.Common.{inl, inr, w8, Fits}
use lib.Count.{count_trailing_zeros}
use lib.Lanes.{chunk, zip2, mask_l, top}
use Rattle.std.specs.Str.Parse.{AllDigits, digits_value}
use Rattle.std.specs.Char.{digit_value}
use Rattle.std.specs.List.{prefix_len}
use Rattle.std.proofs.Math.Nat.{pow-suc, pow-le-pow_right, one-le-pow}
use Rattle.std.proofs.lemmas.List.{get_or-drop, get_or-map, get_or-take, length-drop, length-take-le, length-map}
use Rattle.std.proofs.lemmas.Simd.{length-chunk, tops_compared, zip2_splat, zip2_splat_left, mask_l-mod, map-map}
use Rattle.std.proofs.lemmas.Simd.{none_from_empty_mask, trailing_mask_l, run_in_chunk_le, run_in_chunk_fails}
use Rattle.std.proofs.lemmas.Bool.{cases_lt, ltb-false}
use Rattle.std.proofs.lemmas.Nat.{mul-le, pow-add}
use Rattle.std.proofs.lemmas.Int.Digits.{digits_more, digits_value_more, digits_value-lt}
use Rattle.clock_json.specs.inside.Digits.{AreDigits, weight, HasCounted}
use Rattle.clock_json.proofs.LexLaws.{digit_is}

-- what holds of each number below eight
below_eight : (P : ℕ → Type 0) → P 0 → P 1 → P 2 → P 3 → P 4 → P 5 → P 6 → P 7 → (n : ℕ) → n < 8 → P n
below_eight P a b c d e f g h zero lt = a
below_eight P a b c d e f g h (suc zero) lt = b
below_eight P a b c d e f g h (suc (suc zero)) lt = c
below_eight P a b c d e f g h (suc (suc (suc zero))) lt = d
below_eight P a b c d e f g h (suc (suc (suc (suc zero)))) lt = e
below_eight P a b c d e f g h (suc (suc (suc (suc (suc zero))))) lt = f
below_eight P a b c d e f g h (suc (suc (suc (suc (suc (suc zero)))))) lt = g
below_eight P a b c d e f g h (suc (suc (suc (suc (suc (suc (suc zero))))))) lt = h
below_eight P a b c d e f g h (suc (suc (suc (suc (suc (suc (suc (suc n)))))))) lt = absurd (omega (arith, lt))

-- the last of eight digits counts one
weight_is : (place : ℕ) → place < 8 → weight place ≡ 10 ^ (7 - place)
weight_is = below_eight (λ place. weight place ≡ 10 ^ (7 - place)) refl refl refl refl refl refl refl refl

-- nothing after them counts
no_weight : (n : ℕ) → n < 8 → weight (8 + n) ≡ 0
no_weight = below_eight (λ n. weight (8 + n) ≡ 0) refl refl refl refl refl refl refl refl

-- a weight is at most that of the first
pub weight_most : (place : ℕ) → place < 16 → weight place ≤ 10000000
weight_most place within =
    ⊎_elim
    (λ (lt : place < 8).
    let high : 10 ^ (7 - place) ≤ 10 ^ 7 =
    pow-le-pow_right {n = 10} (omega arith) {i = 7 - place} {j = 7} (omega arith) in
    omega (arith, weight_is place lt, high))
    (λ (ge : 8 ≤ place).
    let at : 8 + (place - 8) ≡ place = omega (arith, ge) in
    omega (arith, no_weight (place - 8) (omega (arith, within)), ap weight at))
    (cases_lt place 8)

-- one digit more: each counts ten times as much as the next
more_is : (value digit high low : ℕ) → high ≡ low * 10 → value * high + digit * low ≡ (value * 10 + digit) * low
more_is value digit high low is = rw is (grind arith)

-- a number of `i` digits, and zeros after it
below : (value i count : ℕ) → i ≤ count → count ≤ 8 → value < 10 ^ i → value * 10 ^ (count - i) < 100000000
below value i count order few small =
    let low = 10 ^ (count - i) in
    let all : 10 ^ count ≡ 10 ^ i * low = ap (λ n. 10 ^ n) (omega (arith, order)) ∙ pow-add 10 i (count - i) in
    let most : 10 ^ count ≤ 10 ^ 8 = pow-le-pow_right {n = 10} (omega arith) {i = count} {j = 8} few in
    let some : 1 ≤ low = one-le-pow (count - i) 10 (omega arith) in
    let next : (value + 1) * low ≤ 10 ^ i * low =
    mul-le (value + 1) low (10 ^ i) low (omega (arith, small)) (omega arith) in
    grind (arith, all, most, some, next)

module _ (bytes : List ℕ) (at count i : ℕ) (few : count ≤ 8) (within : i < 8) where
  -- the next digit counts
  counts : (value : ℕ) → at + 8 ≤ length bytes → AreDigits bytes at count → i < count
      → HasCounted bytes at count i value → let new = value + (get_or bytes (at + i) 0 - 48) * weight (8 - count + i) in
      (new < 100000000) × HasCounted bytes at count (i + 1) new
  counts value room digits lt so_far =
      let rest = drop at bytes in
      let b = get_or bytes (at + i) 0 in
      let h = digits i lt in
      let there : get_or rest i 0 ≡ b = get_or-drop at bytes i 0 in
      let d : digit_value b ≡ b - 48 = digit_is b h.0 h.1 in
      let all : so_far.done ≡ i =
      ⊎_elim (λ (earlier : so_far.done < i). absurd (omega (arith, so_far.all earlier, earlier, lt)))
      (λ (upto : i ≤ so_far.done). omega (arith, upto, so_far.upto)) (cases_lt so_far.done i) in
      let some : i < length rest = omega (arith, length-drop at bytes, room, within) in
      let old : AllDigits 10 (take i rest) = subst (λ n. AllDigits 10 (take n rest)) all so_far.digits in
      let new_digits : AllDigits 10 (take (i + 1) rest) =
      digits_more 10 rest i some old (omega (arith, ap digit_value there, d, h.0, h.1)) in
      let v = digits_value 10 (take i rest) in
      let more : digits_value 10 (take (i + 1) rest) ≡ v * 10 + (b - 48) =
      digits_value_more 10 rest i some ∙ ap (λ x. v * 10 + x) (ap digit_value there ∙ d) in
      let low = 10 ^ (count - (i + 1)) in
      let place : 7 - (8 - count + i) ≡ count - (i + 1) = omega (arith, lt, few) in
      let weighs : weight (8 - count + i) ≡ low =
      weight_is (8 - count + i) (omega (arith, lt, few)) ∙ ap (λ n. 10 ^ n) place in
      let high : 10 ^ (count - i) ≡ low * 10 = ap (λ n. 10 ^ n) (omega (arith, lt)) ∙ pow-suc 10 (count - (i + 1)) in
      let was : value ≡ v * 10 ^ (count - i) =
      so_far.is ∙ ap (λ n. digits_value 10 (take n rest) * 10 ^ (count - n)) all in
      let new = value + (b - 48) * weight (8 - count + i) in
      let is : new ≡ digits_value 10 (take (i + 1) rest) * low =
      ap (λ x. x + (b - 48) * weight (8 - count + i)) was ∙ ap (λ x. v * 10 ^ (count - i) + (b - 48) * x) weighs
      ∙ more_is v (b - 48) (10 ^ (count - i)) low high ∙ ap (λ x. x * low) (sym more) in
      let size : length (take (i + 1) rest) ≡ i + 1 = length-take-le (i + 1) rest (omega (arith, some)) in
      let small : digits_value 10 (take (i + 1) rest) < 10 ^ (i + 1) = subst (λ n. digits_value 10 (take (i + 1) rest)
      < 10 ^ n) size (digits_value-lt 10 (take (i + 1) rest) new_digits) in (
        subst (λ n. n < 100000000) (sym is) (below _ (i + 1) count (omega (arith, lt)) few small),
        record {
          done = i + 1;
          few = omega (arith, lt);
          upto = omega arith;
          all = λ less. absurd (omega (arith, less));
          digits = new_digits;
          is = is;
        },
      )

  -- what is after the digits does not
  counts_nothing : (value b : ℕ) → count ≤ i → HasCounted bytes at count i value
      → let new = value + b * weight (8 - count + i) in (new ≡ value) × HasCounted bytes at count (i + 1) new
  counts_nothing value b ge so_far =
      let place : 8 + (i - count) ≡ 8 - count + i = omega (arith, ge, few) in
      let none : weight (8 - count + i) ≡ 0 = ap weight (sym place) ∙ no_weight (i - count) (omega (arith, within)) in
      let same : value + b * weight (8 - count + i) ≡ value = ap (λ x. value + b * x) none ∙ grind arith in
      let all : so_far.done ≡ count = ⊎_elim (λ (earlier : so_far.done < i). so_far.all earlier)
      (λ (upto : i ≤ so_far.done). omega (arith, upto, so_far.few, ge)) (cases_lt so_far.done i) in (
        same,
        record {
          done = so_far.done;
          few = so_far.few;
          upto = omega (arith, so_far.upto);
          all = λ less. all;
          digits = so_far.digits;
          is = same ∙ so_far.is;
        },
      )

  -- so one step further each of the eight is counted by what it weighs
  pub step : (value : ℕ) → at + 8 ≤ length bytes → AreDigits bytes at count → get_or bytes (at + i) 0 < 256
      → value < 4294967296 → HasCounted bytes at count i value → let new =
      value + (get_or bytes (at + i) 0 + 208) % 256 * weight (8 - count + i) in
      (new < 4294967296) × HasCounted bytes at count (i + 1) new
  step value room digits small fits so_far =
      let b = get_or bytes (at + i) 0 in
      let low = weight (8 - count + i) in
      elim (cases_lt i count) [
        | inl lt ↦
            (let h = digits i lt in
            let is : (b + 208) % 256 ≡ b - 48 = omega (arith, small, h.0, h.1) in
            let one = counts value room digits lt so_far in
            subst (λ digit. (value + digit * low < 4294967296)
            × HasCounted bytes at count (i + 1) (value + digit * low)) (sym is) (omega (arith, one.0), one.1))
        | inr ge ↦ (let one = counts_nothing value ((b + 208) % 256) ge so_far in (omega (arith, one.0, fits), one.1))
      ]

-- a digit by what it weighs has a place in 32 bits
pub weighed : (byte place : ℕ) → byte < 256 → place < 16 → (byte + 208) % 256 * weight place < 4294967296
weighed byte place small within =
    let most : (byte + 208) % 256 * weight place ≤ 255 * 10000000 =
    mul-le ((byte + 208) % 256) (weight place) 255 10000000 (omega (arith, small)) (weight_most place within) in
    omega (arith, most)

-- before the first, none is counted
pub none_counted : (bytes : List ℕ) (at count : ℕ) → HasCounted bytes at count 0 0
none_counted bytes at count = record {
  done = 0;
  few = omega arith;
  upto = omega arith;
  all = λ less. absurd (omega (arith, less));
  digits = tt;
  is = omega arith;
}

-- after the last one, all are
pub all_counted : (bytes : List ℕ) (at count i value : ℕ) → count ≤ 8 → 8 ≤ i → HasCounted bytes at count i value
    → AllDigits 10 (take count (drop at bytes)) × (value ≡ digits_value 10 (take count (drop at bytes)))
all_counted bytes at count i value few past end =
    let all : end.done ≡ count = ⊎_elim (λ (less : end.done < i). end.all less)
    (λ (more : i ≤ end.done). omega (arith, more, end.few, few, past)) (cases_lt end.done i) in (
      subst (λ n. AllDigits 10 (take n (drop at bytes))) all end.digits,
      end.is ∙ ap (λ n. digits_value 10 (take n (drop at bytes)) * 10 ^ (count - n)) all
          ∙ ap (λ low. digits_value 10 (take count (drop at bytes)) * low)
          (ap (λ n. 10 ^ n) (let none : count - count ≡ 0 = omega arith in none)) ∙ omega arith,
    )

-- sixteen bytes, each as the digit that it would be
abbrev pub digits_at : List ℕ → ℕ → List ℕ
digits_at bytes at = zip2 (λ a b. (a + (256 - b)) % 256) (chunk at 16 bytes) (replicate 16 48)

pub digit_lane : (bytes : List ℕ) (at i : ℕ) → at + 16 ≤ length bytes → i < 8
    → get_or (digits_at bytes at) i 0 ≡ (get_or bytes (at + i) 0 + 208) % 256
digit_lane bytes at i room within =
    let digit : ℕ → ℕ = λ a. (a + 208) % 256 in
    let long : length (chunk at 16 bytes) ≡ 16 = length-chunk at 16 bytes room in
    let each : digits_at bytes at ≡ map digit (chunk at 16 bytes) =
    zip2_splat (λ a b. (a + (256 - b)) % 256) (chunk at 16 bytes) 16 48 long in
    ap (λ (list : List ℕ). get_or list i 0) each
    ∙ get_or-map digit (chunk at 16 bytes) i 0 0 (omega (arith, long, within))
    ∙ ap digit (get_or-take 16 (drop at bytes) i 0 (omega (arith, within)) ∙ get_or-drop at bytes i 0)

-- a byte that is no digit
abbrev pub is_other : ℕ → Bool
is_other byte = ltb 9 ((byte + 208) % 256)

-- those of sixteen bytes that are no digits, as they are compared
abbrev pub compared : List ℕ → ℕ
compared bytes = mask_l (map (top 7) (zip2 (λ a b. cond (ltb a b) 255 0) (replicate 16 9)
    (zip2 (λ a b. (a + (256 - b)) % 256) bytes (replicate 16 48)))) % 2 ^ 64

others_mask : (bytes : List ℕ) → length bytes ≡ 16 → compared bytes ≡ mask_l (map is_other bytes)
others_mask bytes long =
    let digits = zip2 (λ a b. (a + (256 - b)) % 256) bytes (replicate 16 48) in
    let each : digits ≡ map (λ a. (a + 208) % 256) bytes = zip2_splat (λ a b. (a + (256 - b)) % 256) bytes 16 48 long in
    let many : length digits ≡ 16 = ap length each ∙ length-map bytes (λ a. (a + 208) % 256) ∙ long in
    ap (λ ms. mask_l ms % 2 ^ 64)
    (tops_compared w8 ltb (replicate 16 9) digits ∙ zip2_splat_left ltb 9 16 digits many
    ∙ ap (map (λ digit. ltb 9 digit)) each ∙ map-map (λ digit. ltb 9 digit) (λ a. (a + 208) % 256) bytes)
    ∙ mask_l-mod (map is_other bytes) 64 (omega (arith, length-map bytes is_other, long))

-- where a byte is not another, it is a digit
is_digit : (byte : ℕ) → byte < 256 → is_other byte ≡ false → (48 ≤ byte) × (byte ≤ 57)
is_digit byte small none =
    let few : (byte + 208) % 256 ≤ 9 = ltb-false 9 ((byte + 208) % 256) none in
    (omega (arith, small, few), omega (arith, small, few))

module _ (bytes : List ℕ) (at : ℕ) (room : at + 16 ≤ length bytes) (small : (i : ℕ) → Fits w8 (get_or bytes i 0)) where
  abbrev pub here : List ℕ
  here = chunk at 16 bytes

  long : length here ≡ 16
  long = length-chunk at 16 bytes room

  of_others : (count : ℕ) → ((k : ℕ) → at ≤ k → k < at + count → is_other (get_or bytes k 0) ≡ false)
      → AreDigits bytes at count
  of_others count none =
      λ k lt. is_digit (get_or bytes (at + k) 0) (small (at + k)).fits (none (at + k) (omega arith) (omega (arith, lt)))

  -- where the mask is empty, all sixteen are digits
  pub all_digits : compared here ≡ 0 → AreDigits bytes at 16
  all_digits empty =
      of_others 16 (none_from_empty_mask is_other bytes at 16 0 room (sym (others_mask here long) ∙ empty))

  -- its first bit shows how many are
  pub first_other : (compared here ≡ 0 → ⊥)
      → (count_trailing_zeros 64 (compared here) ≤ 16) × AreDigits bytes at (count_trailing_zeros 64 (compared here))
  first_other some =
      let mask = mask_l (map is_other here) in
      let same = others_mask here long in
      let left : 0 < mask = ⊎_elim (λ (lt : 0 < mask). lt)
      (λ (none : mask ≤ 0). absurd (some (same ∙ omega (arith, none)))) (cases_lt 0 mask) in
      let counted : count_trailing_zeros 64 (compared here) ≡ prefix_len (λ x. not (is_other x)) here =
      ap (count_trailing_zeros 64) same ∙ trailing_mask_l is_other 64 here (omega (arith, long)) left in (
        run_in_chunk_le is_other bytes at 16 (count_trailing_zeros 64 (compared here)) 0 room counted,
        of_others (count_trailing_zeros 64 (compared here))
            (run_in_chunk_fails is_other bytes at 16 (count_trailing_zeros 64 (compared here)) 0 room counted),
      )
