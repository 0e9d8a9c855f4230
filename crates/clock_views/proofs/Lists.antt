-- Arrays that are written item by item.
use Rattle.std.proofs.Common.{◌≡◌, ℕ, ◌+◌, ◌<◌, List, [], ◌∷◌, ◌++◌, Bool, true, false, suc, ◌-◌, nat_lt, length}
use Rattle.std.proofs.Common.{get_or, drop, zip, append_assoc, ap, ap₂, ◌∙◌, ◌≤◌, sym, arith}
use Rattle.serde_json.specs.Data.{Data}
use Rattle.serde_json.specs.Written.{compact_text, comma_if}
use Rattle.std.specs.List.{range_with_len}
use Rattle.std.proofs.lemmas.Bool.Decides.{nat_tests}
use Rattle.std.proofs.lemmas.List.{drop_all, drop_more}
use Rattle.clock_views.specs.Values.{list_of}
use Rattle.clock_views.specs.inside.Values.{Adds, item_text, rest_text}

-- an item and the rest after it are the rest before it
pub next_item : {A : Type 0} (value : A → Data) (text : List ℕ) (later : Bool) (x : A) (xs : List A)
    → (text ++ item_text later (value x)) ++ rest_text value true xs ≡ text ++ rest_text value later (x ∷ xs)
next_item value text later x xs =
    append_assoc text _ _ ∙ ap (λ s. text ++ s) (append_assoc (comma_if later) (compact_text (value x)) _)

pub one_number : (value : ℕ → Data) (text next : List ℕ) (i n : ℕ) → i < n
    → Adds (item_text (nat_lt 0 i) (value i)) text next → next ++ rest_text value (nat_lt 0 (i + 1))
    (range_with_len (i + 1) (n - (i + 1))) ≡ text ++ rest_text value (nat_lt 0 i) (range_with_len i (n - i))
one_number value text next i n below added =
    let left : suc (n - (i + 1)) ≡ n - i = omega arith in
    let later : nat_lt 0 (i + 1) ≡ true = grind (arith, nat_tests) in
    ap₂ (λ s b. s ++ rest_text value b (range_with_len (i + 1) (n - (i + 1)))) added.is later
    ∙ next_item value text (nat_lt 0 i) i (range_with_len (i + 1) (n - (i + 1)))
    ∙ ap (λ k. text ++ rest_text value (nat_lt 0 i) (range_with_len i k)) left

-- the item at an index is added, before those after it
pub item_more : {A : Type 0} (value : A → Data) (text next : List ℕ) (xs : List A) (i : ℕ) (x d : A) → i < length xs
    → x ≡ get_or xs i d → Adds (item_text (nat_lt 0 i) (value x)) text next
    → next ++ rest_text value (nat_lt 0 (i + 1)) (drop (i + 1) xs) ≡ text ++ rest_text value (nat_lt 0 i) (drop i xs)
item_more value text next xs i x d within is added =
    let later : nat_lt 0 (i + 1) ≡ true = grind (arith, nat_tests) in
    ap₂ (λ s b. s ++ rest_text value b (drop (i + 1) xs)) added.is later
    ∙ next_item value text (nat_lt 0 i) x (drop (i + 1) xs)
    ∙ ap (λ one. text ++ rest_text value (nat_lt 0 i) (one ∷ drop (i + 1) xs)) is
    ∙ ap (λ list. text ++ rest_text value (nat_lt 0 i) list) (sym (drop_more xs i d within))

-- for two lists, item by item
pub row_more : {A B : Type 0} (value : A × B → Data) (text next : List ℕ) (xs : List A) (ys : List B) (i : ℕ) (x : A)
    (y : B) → i < length xs → i < length ys → x ≡ get_or xs i x → y ≡ get_or ys i y
    → Adds (item_text (nat_lt 0 i) (value (x, y))) text next → next ++ rest_text value (nat_lt 0 (i + 1))
    (zip (drop (i + 1) xs) (drop (i + 1) ys)) ≡ text ++ rest_text value (nat_lt 0 i) (zip (drop i xs) (drop i ys))
row_more value text next xs ys i x y below within x_is y_is added =
    let later : nat_lt 0 (i + 1) ≡ true = grind (arith, nat_tests) in
    let rest = zip (drop (i + 1) xs) (drop (i + 1) ys) in
    let both : zip (drop i xs) (drop i ys) ≡ (x, y) ∷ rest =
    ap₂ (λ left right. zip left right) (drop_more xs i x below ∙ ap (λ one. one ∷ drop (i + 1) xs) (sym x_is))
    (drop_more ys i y within ∙ ap (λ one. one ∷ drop (i + 1) ys) (sym y_is)) in
    ap₂ (λ s b. s ++ rest_text value b rest) added.is later
    ∙ next_item value text (nat_lt 0 i) (x, y) rest
    ∙ ap (λ list. text ++ rest_text value (nat_lt 0 i) list) (sym both)

-- after the last item only the bracket is left
pub items_end : {A : Type 0} (value : A → Data) (text whole : List ℕ) (later : Bool) (xs : List A) (i : ℕ)
    → length xs ≤ i → text ++ rest_text value later (drop i xs) ≡ whole → text ++ 93 ∷ [] ≡ whole
items_end value text whole later xs i done items =
    ap (λ left. text ++ rest_text value later left) (sym (drop_all i xs done)) ∙ items

-- an array whose brackets are in the labels around its items
pub array_between : {A : Type 0} (value : A → Data) (xs : List A) (start : List ℕ)
    {behind open_ close text opened filled whole : List ℕ} → open_ ≡ start ++ 91 ∷ [] → close ≡ 93 ∷ behind
    → Adds open_ text opened → filled ++ 93 ∷ [] ≡ opened ++ rest_text value false xs → Adds close filled whole
    → Adds (start ++ (compact_text (list_of value xs) ++ behind)) text whole
array_between value xs start {behind = behind} {open_ = open_} {close = close} {text = text}
    {filled = filled} opens closes first items last =
    let rest = rest_text value false xs in
    record {
      is = last.is ∙ ap (λ s. filled ++ s) closes ∙ sym (append_assoc filled (93 ∷ []) behind)
          ∙ ap (λ s. s ++ behind) (items ∙ ap (λ s. s ++ rest) (first.is ∙ ap (λ s. text ++ s) opens))
          ∙ append_assoc (text ++ (start ++ 91 ∷ [])) rest behind
          ∙ append_assoc text (start ++ 91 ∷ []) (rest ++ behind)
          ∙ ap (λ s. text ++ s) (append_assoc start (91 ∷ []) (rest ++ behind));
    }
