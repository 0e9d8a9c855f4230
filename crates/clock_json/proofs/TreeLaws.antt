-- Laws of members and items of JSON values.
use Rattle.std.proofs.Common.{◌≡◌, ℕ, ◌+◌, ◌<◌, ◌≤◌, suc, List, [], ◌∷◌, ◌++◌, length, get_or}
use Rattle.std.proofs.Common.{drop, Option, Some, None, refl, sym, ◌∙◌, ap, String, Global, nat_eq}
use Rattle.std.proofs.lemmas.List.{append-nil, append_assoc, drop_more, drop_all}
use Rattle.serde_json.specs.Data.{Data, Members, item}
use Rattle.serde_json.specs.Events.{members_len}
use Rattle.serde_json.specs.View.{view, items_view, members_view}
use Rattle.serde_json.specs.declared.value.Value.{Value}
use Rattle.clock_json.specs.Tree.{is_count, each, ◌>>=◌}

-- the members of an object and the entries of its map are equal in number
members_len-view : (entries : List (String Global × Value)) → members_len (members_view entries) ≡ length entries
members_len-view [] = refl
members_len-view (entry ∷ entries) = ap (λ n. suc n) (members_len-view entries)

-- the length of the map decides the count
pub counted : (entries : List (String Global × Value)) (count n : ℕ) (members : Option Members) → n ≡ length entries
    → Some (members_view entries) ≡ members → nat_eq n count ≡ is_count count members
counted entries count n members len is =
    ap (λ k. nat_eq k count) (len ∙ sym (members_len-view entries)) ∙ ap (is_count count) is

-- what is read so far, and what the rest of the items means
abbrev pub behind : {A : Type 0} → List A → Option (List A) → Option (List A)
behind so_far None = None
behind so_far (Some rest) = Some (so_far ++ rest)

pub behind_none : {A : Type 0} (meant : Option (List A)) → behind [] meant ≡ meant
behind_none None = refl
behind_none (Some rest) = refl

pub behind_all : {A : Type 0} (meaning : Data → Option A) (items : List Value) (i : ℕ) (so_far : List A)
    → length items ≤ i → behind so_far (each meaning (items_view (drop i items))) ≡ Some so_far
behind_all meaning items i so_far h = ap (λ (rest : List Value). behind so_far (each meaning (items_view rest)))
    (drop_all i items h) ∙ ap Some (append-nil so_far)

unrolled : (items : List Value) (i : ℕ) (d : Value) → i < length items
    → items_view (drop i items) ≡ item (view (get_or items i d)) (items_view (drop (i + 1) items))
unrolled items i d h = ap items_view (drop_more items i d h)

joined : {A : Type 0} (so_far : List A) (x : A) (meant : Option (List A))
    → behind so_far (meant >>= λ rest. Some (x ∷ rest)) ≡ behind (so_far ++ x ∷ []) meant
joined so_far x None = refl
joined so_far x (Some rest) = ap Some (sym (append_assoc so_far (x ∷ []) rest))

-- the next item means something
pub one_more : {A : Type 0} (meaning : Data → Option A) (items : List Value) (i : ℕ) (d : Value) (so_far : List A)
    (x : A) → i < length items → meaning (view (get_or items i d)) ≡ Some x → behind so_far (each meaning
    (items_view (drop i items))) ≡ behind (so_far ++ x ∷ []) (each meaning (items_view (drop (i + 1) items)))
one_more meaning items i d so_far x h is =
    let rest = each meaning (items_view (drop (i + 1) items)) in
    ap (λ r. behind so_far (each meaning r)) (unrolled items i d h)
    ∙ ap (λ o. behind so_far (o >>= λ first. (rest >>= λ more. Some (first ∷ more)))) is
    ∙ joined so_far x rest

-- the next item means nothing, and so do all
pub none_here : {A : Type 0} (meaning : Data → Option A) (items : List Value) (i : ℕ) (d : Value) (so_far : List A)
    → i < length items → meaning (view (get_or items i d)) ≡ None
    → behind so_far (each meaning (items_view (drop i items))) ≡ None
none_here meaning items i d so_far h is =
    let rest = each meaning (items_view (drop (i + 1) items)) in
    ap (λ r. behind so_far (each meaning r)) (unrolled items i d h)
    ∙ ap (λ o. behind so_far (o >>= λ first. (rest >>= λ more. Some (first ∷ more)))) is
