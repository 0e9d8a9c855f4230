-- A property of each two items of a list, the earlier one first: for the parts of a list, and for two lists joined.
use Rattle.std.proofs.Common.{suc, List, [], ◌∷◌, ◌++◌, arith, All}
use Rattle.std.specs.List.{AllPairs}
use Rattle.std.proofs.lemmas.List.Elements.{All-append, All-head, All-tail}
use Rattle.std.proofs.lemmas.List.Kept.{AllPairs-cons}

module _ {A : Type 0} (R : A → A → Type 0) where
  -- the first item and each later one
  pub pairs_head : (x : A) (xs : List A) → AllPairs R (x ∷ xs) → All (R x) xs
  pairs_head x xs pairs j d within = pairs 0 (suc j) d (omega arith) (omega (arith, within))

  -- the later items
  pub pairs_tail : (x : A) (xs : List A) → AllPairs R (x ∷ xs) → AllPairs R xs
  pairs_tail x xs pairs i j d before within = pairs (suc i) (suc j) d (omega (arith, before)) (omega (arith, within))

  -- two lists joined, if the property also holds for each pair across them
  pub AllPairs-append : (xs ys : List A) → AllPairs R xs → AllPairs R ys → All (λ x. All (R x) ys) xs
      → AllPairs R (xs ++ ys)
  AllPairs-append [] ys first second across = second
  AllPairs-append (x ∷ xs) ys first second across =
      AllPairs-cons R x (xs ++ ys)
      (All-append (R x) xs ys (pairs_head x xs first) (All-head (λ one. All (R one) ys) x xs across))
      (AllPairs-append xs ys (pairs_tail x xs first) second (All-tail (λ one. All (R one) ys) x xs across))
