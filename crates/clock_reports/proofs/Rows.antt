-- Lists that are written entry by entry: the text of the next entry, and the end.
use Rattle.std.proofs.Common.{◌≡◌, ◌<◌, ◌≤◌, ◌+◌, ◌++◌, ℕ, List, [], ◌∷◌, ap, ap₂, drop, get_or, length, sym, ◌∙◌}
use Rattle.std.specs.Prelude.{zip}
use Rattle.std.specs.List.{flat_map}
use Rattle.std.proofs.lemmas.List.{drop_all, drop_more}

from_next : {A : Type 0} (xs : List A) (i : ℕ) (x d : A) → i < length xs → x ≡ get_or xs i d
    → drop i xs ≡ x ∷ drop (i + 1) xs
from_next xs i x d within is = drop_more xs i d within ∙ ap (λ first. first ∷ drop (i + 1) xs) (sym is)

pub next_one : {A : Type 0} (f : A → List ℕ) (xs : List A) (i : ℕ) (x d : A) → i < length xs → x ≡ get_or xs i d
    → flat_map f (drop i xs) ≡ f x ++ flat_map f (drop (i + 1) xs)
next_one f xs i x d within is = ap (λ left. flat_map f left) (from_next xs i x d within is)

pub next_pair : {A B : Type 0} (f : A × B → List ℕ) (xs : List A) (ys : List B) (i : ℕ) (x d : A) (y e : B)
    → i < length xs → i < length ys → x ≡ get_or xs i d → y ≡ get_or ys i e → flat_map f (zip (drop i xs) (drop i ys))
    ≡ f (x, y) ++ flat_map f (zip (drop (i + 1) xs) (drop (i + 1) ys))
next_pair f xs ys i x d y e within among x_is y_is = ap₂ (λ left right. flat_map f (zip left right))
    (from_next xs i x d within x_is) (from_next ys i y e among y_is)

pub no_one : {A : Type 0} (f : A → List ℕ) (xs : List A) (i : ℕ) → length xs ≤ i → flat_map f (drop i xs) ≡ []
no_one f xs i past = ap (λ left. flat_map f left) (drop_all i xs past)

pub no_pair : {A B : Type 0} (f : A × B → List ℕ) (xs : List A) (ys : List B) (i : ℕ) → length xs ≤ i
    → flat_map f (zip (drop i xs) (drop i ys)) ≡ []
no_pair f xs ys i past = ap (λ left. flat_map f (zip left (drop i ys))) (drop_all i xs past)
