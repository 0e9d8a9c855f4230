-- Arrays that are written with a comma before each item.
use Rattle.std.proofs.Common.{◌≡◌, ℕ, ◌+◌, ◌<◌, ◌≤◌, Bool, true, false, nat_lt, List, [], ◌∷◌, ◌++◌, length, get_or}
use Rattle.std.proofs.Common.{drop, slice_set, codes, refl, sym, ap, ◌∙◌, append_assoc, append-nil, arith}
use Rattle.std.specs.Prelude.{Result, Ok, Err, OnOk, if◌then◌else◌}
use Rattle.std.proofs.Math.Seq.{set-append_seam}
use Rattle.std.proofs.lemmas.Bool.Decides.{nat_tests}
use Rattle.std.proofs.lemmas.List.{drop_all, drop_more, length-append}
use Rattle.serde_json.specs.Data.{Data}
use Rattle.serde_json.specs.Written.{compact_text, items_text}
use Rattle.clock_views.specs.Values.{items_of, list_of}
use Rattle.clock_views.specs.inside.Values.{Adds}
use Rattle.clock_scripts.specs.inside.Arrays.{with_comma, with_commas, array_ended}

module _ {A : Type 0} (value : A → Data) where
  -- the items after another one, and the closing bracket
  closed : (items : List A) → with_commas value items ++ codes "]" ≡ items_text true (items_of value items)
  closed [] = refl
  closed (x ∷ xs) = append_assoc (with_comma value x) (with_commas value xs) (codes "]")
      ∙ ap (λ (rest : List ℕ). with_comma value x ++ rest) (closed xs)

  -- the first comma becomes the bracket
  ended : (items : List A) (before whole : List ℕ) → whole ≡ before ++ with_commas value items
      → array_ended (length before) whole ≡ before ++ compact_text (list_of value items)
  ended [] before whole is =
      let none : nat_lt (length before) (length before) ≡ false = grind (arith, nat_tests) in
      ap (λ (text : List ℕ). array_ended (length before) text) (is ∙ append-nil before)
      ∙ ap (λ (some : Bool). (if some then slice_set before (length before) 91 else before ++ codes "[")
      ++ codes "]") none ∙ append_assoc before (codes "[") (codes "]")
  ended (x ∷ xs) before whole is =
      let rest = compact_text (value x) ++ with_commas value xs in
      let text = before ++ (44 ∷ rest) in
      let some : nat_lt (length before) (length text) ≡ true =
      (let long = length-append before (44 ∷ rest) in grind (arith, nat_tests)) in
      ap (λ (all : List ℕ). array_ended (length before) all) is ∙ ap (λ (there : Bool).
      (if there then slice_set text (length before) 91 else text ++ codes "[") ++ codes "]") some
      ∙ ap (λ (all : List ℕ). all ++ codes "]") (set-append_seam before 44 rest 91) ∙ append_assoc before (91 ∷ rest)
      (codes "]") ∙ ap (λ (more : List ℕ). before ++ (91 ∷ more)) (append_assoc (compact_text (value x))
      (with_commas value xs) (codes "]") ∙ ap (λ (more : List ℕ). compact_text (value x) ++ more) (closed xs))

  -- after all items it is the array
  pub array_from : (items : List A) (begun text new : List ℕ) (start : ℕ) → start ≡ length begun → text ≡ begun
      ++ with_commas value items → new ≡ array_ended start text → Adds (compact_text (list_of value items)) begun new
  array_from items begun text new start from all end =
      record { is = end ∙ ap (λ (n : ℕ). array_ended n text) from ∙ ended items begun text all }

  -- the item at an index is added with its comma, before those after it
  pub comma_more : (items : List A) (i : ℕ) (other : A) (text next : List ℕ) → i < length items
      → Adds (with_comma value (get_or items i other)) text next
      → next ++ with_commas value (drop (i + 1) items) ≡ text ++ with_commas value (drop i items)
  comma_more items i other text next within added =
      ap (λ (s : List ℕ). s ++ with_commas value (drop (i + 1) items)) added.is
      ∙ append_assoc text (with_comma value (get_or items i other)) (with_commas value (drop (i + 1) items))
      ∙ ap (λ (list : List A). text ++ with_commas value list) (sym (drop_more items i other within))

  -- and so where a loop has come past the last item
  pub array_done : {T E : Type 0} (items : List A) (begun text new : List ℕ) (start i : ℕ) (result : Result T E) → start
      ≡ length begun → length items ≤ i → text ++ with_commas value (drop i items) ≡ begun ++ with_commas value items
      → OnOk result (new ≡ array_ended start text) → OnOk result (Adds (compact_text (list_of value items)) begun new)
  array_done items begun text new start i (Ok done) from past all end =
      array_from items begun text new start from (sym (append-nil text)
      ∙ ap (λ (rest : List A). text ++ with_commas value rest) (sym (drop_all i items past)) ∙ all) end
  array_done items begun text new start i (Err fault) from past all end = tt
