-- A set made of a list of texts has the length of the list exactly if no two texts are equal: each text that is not yet
-- in the set adds one.
use Rattle.std.proofs.Common.{◌≡◌, ℕ, ◌+◌, ◌<◌, ◌≤◌, suc, Bool, true, false, not, ◌&&◌, ◌||◌, cond, nat_eq, List, []}
use Rattle.std.proofs.Common.{◌∷◌, ◌++◌, length, map, get_or, take}
use Rattle.std.proofs.Common.{Bor, Result, IfOk, refl, sym, ap, ap₂, ◌∙◌, subst, arith}
use Rattle.std.specs.List.{list_any}
use Rattle.std.specs.Str.{bytes_eq}
use Rattle.std.specs.Set.{distinct_count, unique_keys, is_member}
use Rattle.std.specs.Cmp.Lexicographic.{pointwise}
use Rattle.std.specs.HashSet.{HashSet, hash_set_len, IsEmpty, InsertsAll, IsFromIterResult}
use Rattle.std.proofs.lemmas.List.{map-append, take_more, take_all}
use Rattle.std.proofs.lemmas.Bool.Decides.{nat_tests}
use Rattle.std.proofs.lemmas.Cmp.{nat_list_eq_equiv, on_equiv}
use Rattle.std.proofs.lemmas.Map.Made.{distinct_count-le, hash_set_len-from_list}
use Rattle.clock_terms.specs.Limits.{is_distinct}

-- two borrowed texts have equal bytes
abbrev pub same_text : Bor (List ℕ) → Bor (List ℕ) → Bool
same_text a b = pointwise nat_eq a.now b.now

-- a set contains exactly what was inserted into an empty one
pub set_of_empty : {S : Type 0} (texts : List (Bor (List ℕ))) (empty seen : HashSet (Bor (List ℕ)) S) → IsEmpty empty
    → InsertsAll same_text empty texts seen → IsFromIterResult same_text texts seen
set_of_empty texts empty seen none all =
    (λ q. all.0 q ∙ ap (λ keys. is_member same_text keys q || is_member same_text texts q) none, all.1)

-- whether a list has a text depends only on its bytes
list_any-now : (x : List ℕ) (texts : List (Bor (List ℕ)))
    → list_any (λ t. bytes_eq x t.now) texts ≡ list_any (bytes_eq x) (map (λ t. t.now) texts)
list_any-now x [] = refl
list_any-now x (t ∷ texts) = rw (list_any-now x texts)

length_more : (a b : ℕ) → nat_eq (suc a) (suc b) ≡ nat_eq a b
length_more a b = grind (arith, nat_tests)

length_short : (a b : ℕ) → a ≤ b → nat_eq a (suc b) ≡ false
length_short a b h = grind (arith, nat_tests)

-- one more text, which the others have or not
count_more : (t : Bor (List ℕ)) (texts : List (Bor (List ℕ))) (b : Bool) → is_member same_text texts t ≡ b
    → nat_eq (distinct_count same_text texts) (length texts) ≡ is_distinct (map (λ u. u.now) texts)
    → nat_eq (length (cond b (unique_keys same_text texts) (t ∷ unique_keys same_text texts))) (suc (length texts))
    ≡ (not b && is_distinct (map (λ u. u.now) texts))
count_more t texts true e rest = length_short _ _ (distinct_count-le same_text texts)
count_more t texts false e rest = length_more _ _ ∙ rest

count_is : (texts : List (Bor (List ℕ)))
    → nat_eq (distinct_count same_text texts) (length texts) ≡ is_distinct (map (λ t. t.now) texts)
count_is [] = refl
count_is (t ∷ texts) =
    count_more t texts (is_member same_text texts t) refl (count_is texts)
    ∙ ap (λ b. not b && is_distinct (map (λ u. u.now) texts)) (list_any-now t.now texts)

pub set_length_is : {S : Type 0} (texts : List (Bor (List ℕ))) (seen : HashSet (Bor (List ℕ)) S) → IsFromIterResult
    same_text texts seen → nat_eq (hash_set_len seen) (length texts) ≡ is_distinct (map (λ t. t.now) texts)
set_length_is texts seen made = ap (λ n. nat_eq n (length texts))
    (hash_set_len-from_list (on_equiv (λ t. t.now) nat_list_eq_equiv) texts seen made) ∙ count_is texts

-- the test of texts that are read from a slice
pub distinct_texts : {E : Type 0} (result : Result Bool E) (slice items : List (Bor (List ℕ))) (texts : List (List ℕ))
    → slice ≡ items → map (λ t. t.now) items ≡ texts → IfOk result (λ distinct. distinct
    ≡ is_distinct (map (λ t. t.now) slice)) → IfOk result (λ distinct. distinct ≡ is_distinct texts)
distinct_texts result slice items texts same is known =
    subst (λ list. IfOk result (λ distinct. distinct ≡ is_distinct list)) (ap (map (λ t. t.now)) same ∙ is) known

-- ---- texts of entries, collected one by one

module _ {E : Type 0} (text_of : E → List ℕ) (texts : List (Bor (List ℕ))) (entries : List E) (i : ℕ) where
  -- the text of the next entry is added
  pub text_pushed : (pushed : List (Bor (List ℕ))) (t : Bor (List ℕ)) (entry : E) → pushed ≡ texts ++ t ∷ []
      → i < length entries → entry ≡ get_or entries i entry → t.now ≡ text_of entry → map (λ u. u.now) texts
      ≡ map text_of (take i entries) → map (λ u. u.now) pushed ≡ map text_of (take (i + 1) entries)
  text_pushed pushed t entry is lt at same so_far = ap (map (λ u. u.now)) is ∙ map-append (λ u. u.now) texts (t ∷ [])
      ∙ ap₂ (λ before text. before ++ text ∷ []) so_far (same ∙ ap text_of at) ∙ sym (ap (map text_of)
      (take_more entries i entry lt) ∙ map-append text_of (take i entries) (get_or entries i entry ∷ []))

  -- no entry is left
  pub texts_end : length entries ≤ i → map (λ u. u.now) texts ≡ map text_of (take i entries)
      → map (λ u. u.now) texts ≡ map text_of entries
  texts_end past so_far = so_far ∙ ap (map text_of) (take_all i entries past)

  -- the text of the next entry is added, with another text first in the list
  pub text_pushed_behind : (first : List ℕ) (pushed : List (Bor (List ℕ))) (t : Bor (List ℕ)) (entry : E)
      → pushed ≡ texts ++ t ∷ [] → i < length entries → entry ≡ get_or entries i entry → t.now ≡ text_of entry
      → map (λ u. u.now) texts ≡ first ∷ map text_of (take i entries)
      → map (λ u. u.now) pushed ≡ first ∷ map text_of (take (i + 1) entries)
  text_pushed_behind first pushed t entry is lt at same so_far = ap (map (λ u. u.now)) is
      ∙ map-append (λ u. u.now) texts (t ∷ []) ∙ ap₂ (λ before text. before ++ text ∷ []) so_far (same ∙ ap text_of at)
      ∙ ap (λ rest. first ∷ rest) (sym (ap (map text_of) (take_more entries i entry lt)
      ∙ map-append text_of (take i entries) (get_or entries i entry ∷ [])))

  pub texts_end_behind : (first : List ℕ) → length entries ≤ i → map (λ u. u.now) texts
      ≡ first ∷ map text_of (take i entries) → map (λ u. u.now) texts ≡ first ∷ map text_of entries
  texts_end_behind first past so_far = so_far ∙ ap (λ rest. first ∷ map text_of rest) (take_all i entries past)
