-- Laws of plain text, whose end is looked for sixteen bytes at a time.
use Rattle.std.proofs.Common.{◌≡◌, ℕ, suc, ◌+◌, ◌*◌, ◌<◌, ◌≤◌, ◌%◌, ◌^◌, ◌==◌, ◌||◌, Bool, true, false, not, cond, eqb}
use Rattle.std.proofs.Common.{ltb, List, [], ◌∷◌, ◌++◌, map, length, take, drop, replicate}
use Rattle.std.proofs.Common.{refl, sym, ap, ap₂, ◌∙◌, subst, arith}
use lib.Bits.{bit_or}
use lib.Count.{count_trailing_zeros}
use lib.Lanes.{chunk, zip2, mask_l, top}
use Rattle.std.specs.List.{prefix_len}
use Rattle.std.proofs.lemmas.Bool.{or_parts, not-true, eqb-false, ltb-false, eq-eqb, ne_eqb}
use Rattle.std.proofs.lemmas.List.{length-map}
use Rattle.std.proofs.lemmas.List.Folds.{prefix_len-append}
use Rattle.std.proofs.lemmas.List.Sums.{prefix_len-le-length}
use Rattle.std.proofs.lemmas.Simd.{map-map, zip2_splat, zip2_of_maps, mask_l-mod, chunk-drop, length-chunk}
use Rattle.std.proofs.lemmas.Simd.{leading_from_mask_l, trailing_mask_l}
use Rattle.json.specs.Print.{escape}
use Rattle.json.specs.Run.{is_stop, is_plain}
use Rattle.json.proofs.Printed.Strings.{escape_byte_plain}

-- ---- one byte and more

plain_more : (plain : Bool) (x n : ℕ) (xs : List ℕ) → is_plain x ≡ plain → escape (take n xs) ≡ take n xs
    → escape (take (cond plain (1 + n) 0) (x ∷ xs)) ≡ take (cond plain (1 + n) 0) (x ∷ xs)
plain_more false x n xs is rest = refl
plain_more true x n xs is rest =
    let next : suc n ≡ 1 + n = omega arith in
    let none = or_parts ((x == 34) || (x == 92)) _ (not-true _ is) in
    let marks = or_parts (x == 34) _ none.0 in
    let one = escape_byte_plain x (eqb-false x 34 marks.0) (eqb-false x 92 marks.1) (ltb-false x 32 none.1) in
    subst (λ k. escape (take k (x ∷ xs)) ≡ take k (x ∷ xs)) next (ap₂ (λ b r. b ++ r) one rest)

-- plain bytes stand for themselves
pub plain_front : (xs : List ℕ) → escape (take (prefix_len is_plain xs) xs) ≡ take (prefix_len is_plain xs) xs
plain_front [] = refl
plain_front (x ∷ xs) = plain_more (is_plain x) x (prefix_len is_plain xs) xs refl (plain_front xs)

-- ---- sixteen bytes

abbrev hit : ℕ → ℕ → ℕ
hit a b = cond (eqb a b) 255 0

abbrev below : ℕ → ℕ → ℕ
below a b = cond (ltb a b) 255 0

-- the bytes at which plain text ends, as they are compared
abbrev compared : List ℕ → List ℕ
compared bytes = zip2 bit_or (zip2 bit_or (zip2 hit bytes (replicate 16 34)) (zip2 hit bytes (replicate 16 92)))
    (zip2 below bytes (replicate 16 32))

either : (quote backslash control : Bool) → top 7
    (bit_or (bit_or (cond quote 255 0) (cond backslash 255 0)) (cond control 255 0)) ≡ ((quote || backslash) || control)
either true true true = refl
either true true false = refl
either true false true = refl
either true false false = refl
either false true true = refl
either false true false = refl
either false false true = refl
either false false false = refl

pub stops_mask : (bytes : List ℕ) → length bytes ≡ 16
    → mask_l (map (top 7) (compared bytes)) % 2 ^ 64 ≡ mask_l (map is_stop bytes)
stops_mask bytes long =
    let lanes = zip2_of_maps bit_or (λ x. bit_or (hit x 34) (hit x 92)) (λ x. below x 32) bytes (zip2_of_maps bit_or
    (λ x. hit x 34) (λ x. hit x 92) bytes (zip2_splat hit bytes 16 34 long) (zip2_splat hit bytes 16 92 long))
    (zip2_splat below bytes 16 32 long) in
    let each = map-map (top 7) (λ x. bit_or (bit_or (hit x 34) (hit x 92)) (below x 32)) bytes
    ∙ ap (λ (f : ℕ → Bool). map f bytes) (λ i x. either (eqb x 34) (eqb x 92) (ltb x 32) i) in
    ap (λ l. mask_l l % 2 ^ 64) (ap (map (top 7)) lanes ∙ each)
    ∙ mask_l-mod (map is_stop bytes) 64 (omega (arith, length-map bytes is_stop, long))

none_stops : (stop : Bool) (n l m : ℕ) → n ≤ l → cond (not stop) (1 + n) 0 ≡ 1 + l → (n ≡ l → m ≡ 0)
    → cond stop 1 0 + 2 * m ≡ 0
none_stops true n l m le is rest = absurd (omega (arith, is))
none_stops false n l m le is rest = omega (arith, rest (omega (arith, is)))

all_plain : (xs : List ℕ) → prefix_len is_plain xs ≡ length xs → mask_l (map is_stop xs) ≡ 0
all_plain [] is = refl
all_plain (x ∷ xs) is =
    none_stops (is_stop x) _ (length xs) _ (prefix_len-le-length is_plain xs) (omega (arith, is)) (all_plain xs)

module _ (bytes : List ℕ) (at : ℕ) (room : at + 16 ≤ length bytes) where
  -- the sixteen, and what follows where all are plain
  front : (all : Bool) → eqb (prefix_len is_plain (chunk at 16 bytes)) (length (chunk at 16 bytes)) ≡ all
      → prefix_len is_plain (drop at bytes)
      ≡ cond all (16 + prefix_len is_plain (drop (at + 16) bytes)) (prefix_len is_plain (chunk at 16 bytes))
  front all is =
      let here = chunk at 16 bytes in
      ap (prefix_len is_plain) (chunk-drop at 16 bytes) ∙ prefix_len-append is_plain here (drop (at + 16) bytes)
      ∙ ap₂ (λ b k. cond b (k + prefix_len is_plain (drop (at + 16) bytes)) (prefix_len is_plain here)) is
      (length-chunk at 16 bytes room)

  -- if none stops it, the text continues after them
  pub goes_through : mask_l (map is_stop (chunk at 16 bytes)) ≡ 0
      → prefix_len is_plain (drop at bytes) ≡ 16 + prefix_len is_plain (drop (at + 16) bytes)
  goes_through none = front true (eq-eqb _ _ (leading_from_mask_l is_stop (chunk at 16 bytes) none))

  -- the first that stops it is the end
  pub stops_there : 0 < mask_l (map is_stop (chunk at 16 bytes))
      → prefix_len is_plain (drop at bytes) ≡ count_trailing_zeros 64 (mask_l (map is_stop (chunk at 16 bytes)))
  stops_there some =
      let here = chunk at 16 bytes in
      front false
      (ne_eqb _ _ (λ (all : prefix_len is_plain here ≡ length here). omega (arith, some, all_plain here all)))
      ∙ sym (trailing_mask_l is_stop 64 here (omega (arith, length-chunk at 16 bytes room)) some)
