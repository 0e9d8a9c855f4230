-- A bid from the text before its quantity, whose array is copied whole and then cut.
use Rattle.std.proofs.Common.{◌≡◌, ℕ, ◌+◌, ◌-◌, ◌<◌, ◌≤◌, List, [], ◌∷◌, ◌++◌, codes, decimal, length, set, take, drop}
use Rattle.std.proofs.Common.{refl, sym, ap, ◌∙◌, append_assoc, arith}
use Rattle.std.proofs.Math.Seq.{set-append_seam, take-append-add, take-append_seam}
use Rattle.std.proofs.lemmas.List.{set-append_right, take-append-drop, length-take-le, length-append, length-drop}
use Rattle.std.proofs.lemmas.Fmt.{decimal_digit}
use Rattle.clock_views.specs.inside.Values.{Adds}
use Rattle.clock_scripts.specs.Sincere.{bid_for}
use Rattle.clock_scripts.specs.inside.Bodies.{bid_text}
use Rattle.clock_scripts.specs.inside.Prefixes.{IsPrefix, prefix_text}
use Rattle.clock_scripts.proofs.TextPieces.{bid_with_comma}

-- two items are replaced, and the list is cut after them
cut_after : (xs rest : List ℕ) (x y : ℕ) → 2 ≤ length rest
    → take (length xs + 2) (set (set (xs ++ rest) (length xs) x) (length xs + 1) y) ≡ xs ++ x ∷ y ∷ []
cut_after xs [] x y long = absurd (omega (arith, long))
cut_after xs (a ∷ []) x y long = absurd (omega (arith, long))
cut_after xs (a ∷ b ∷ rest) x y long =
    let one : length xs + 1 - length xs ≡ 1 = omega arith in
    ap (λ (list : List ℕ). take (length xs + 2) (set list (length xs + 1) y)) (set-append_seam xs a (b ∷ rest) x)
    ∙ ap (take (length xs + 2)) (set-append_right xs (x ∷ b ∷ rest) (length xs) (length xs + 1) y refl (omega arith)
    ∙ ap (λ (k : ℕ). xs ++ set (x ∷ b ∷ rest) k y) one)
    ∙ take-append-add xs (x ∷ y ∷ rest) 2

regrouped : (a b c d e f g : List ℕ) → (a ++ (b ++ (c ++ (d ++ e)))) ++ (f ++ g)
    ≡ a ++ (b ++ (c ++ (d ++ (e ++ (f ++ g)))))
regrouped a b c d e f g = simp append_assoc

-- the pieces of the text before the quantity, and what follows it
pub regrouped_prefix : (a b c d e rest : List ℕ) → a ++ (b ++ (c ++ (d ++ (e ++ rest))))
    ≡ (a ++ (b ++ (c ++ (d ++ e)))) ++ rest
regrouped_prefix a b c d e rest = simp append_assoc

-- the text before the quantity, a digit, and a brace are the bid
whole_bid : (product quantity price : ℕ) → quantity < 10
    → prefix_text product price ++ (48 + quantity) ∷ 125 ∷ [] ≡ bid_text (bid_for product quantity price)
whole_bid product quantity price digit =
    ap (λ (list : List ℕ). prefix_text product price ++ (list ++ codes "}")) (sym (decimal_digit quantity digit))
    ∙ regrouped (codes ",{\"price\":") (decimal price) (codes ",\"product\":") (decimal product)
    (codes ",\"quantity\":") (decimal quantity) (codes "}")
    ∙ sym (bid_with_comma (bid_for product quantity price))

module _ (product quantity price : ℕ) (array old whole new : List ℕ) (count end : ℕ) (digit : quantity < 10)
    (is : IsPrefix product price array count) (size : length array ≡ 80) (end_is : end ≡ length old + count)
    (whole_is : whole ≡ old ++ array)
    (new_is : new ≡ take (end + 2) (set (set whole end (48 + quantity)) (end + 1) 125)) where
  abbrev begun : List ℕ
  begun = old ++ take count array

  begun_length : length begun ≡ end
  begun_length = omega (
    arith,
    end_is,
    length-append old (take count array),
    length-take-le count array (omega (arith, is.short, size)),
  )

  in_two : whole ≡ begun ++ drop count array
  in_two = whole_is ∙ ap (λ (list : List ℕ). old ++ list) (sym (take-append-drop count array))
      ∙ sym (append_assoc old (take count array) (drop count array))

  pub bid_cut : Adds (bid_text (bid_for product quantity price)) old new
  bid_cut = record {
    is = new_is
        ∙ ap (λ (list : List ℕ). take (end + 2) (set (set list end (48 + quantity)) (end + 1) 125)) in_two
        ∙ ap (λ (k : ℕ). take (k + 2) (set (set (begun ++ drop count array) k (48 + quantity)) (k + 1) 125))
        (sym begun_length)
        ∙ cut_after begun (drop count array) (48 + quantity) 125
        (omega (arith, length-drop count array, size, is.short))
        ∙ append_assoc old (take count array) ((48 + quantity) ∷ 125 ∷ [])
        ∙ ap (λ (list : List ℕ). old ++ (list ++ (48 + quantity) ∷ 125 ∷ [])) is.is
        ∙ ap (λ (list : List ℕ). old ++ list) (whole_bid product quantity price digit);
  }

-- an array of 80 bytes from where the text begins in a line has the text, which ends at index 80 of the line
pub prefix_made : (product price start : ℕ) (line array rest : List ℕ) → length line ≡ 160
    → 7 ≤ start → drop start line ≡ prefix_text product price ++ rest → length rest ≡ 80 → start ≤ 80
    → array ≡ take (start + 80 - start) (drop start line) → IsPrefix product price array (80 - start)
prefix_made product price start line array rest size late behind room within is =
    let text : List ℕ = prefix_text product price in
    let count : length text ≡ 80 - start =
    omega (
      arith,
      size,
      room,
      within,
      length-drop start line,
      ap (λ (list : List ℕ). length list) behind,
      length-append text rest,
    ) in
    let whole : start + 80 - start ≡ length text + start = omega (arith, count, within) in
    let copied : array ≡ text ++ take start rest = is ∙ ap (λ (k : ℕ). take k (drop start line)) whole
    ∙ ap (take (length text + start)) behind ∙ take-append-add text rest start in
    record {
      is = ap (λ (k : ℕ). take k array) (sym count) ∙ ap (take (length text)) copied
          ∙ take-append_seam text (take start rest);
      short = omega (arith, late);
    }
