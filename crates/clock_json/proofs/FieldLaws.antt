-- A member is put among the members that were found.
use Rattle.std.proofs.Common.{◌≡◌, ℕ, true, false, List, [], ◌∷◌, Option, Some, None, Ordering, Less, Equal, Greater}
use Rattle.std.proofs.Common.{is_eq, refl, sym, ap, ◌∙◌}
use Rattle.std.proofs.lemmas.Bool.{false≢true}
use Rattle.std.proofs.lemmas.Map.Text.{is_eq-slice_cmp}
use Rattle.std.proofs.lemmas.Slice.Eq.{bytes_eq-Decides}
use Rattle.std.specs.Ordering.{nat_cmp, match_ordering}
use Rattle.std.specs.Cmp.Lexicographic.{slice_cmp}
use Rattle.serde_json.specs.Data.{Data, member, put}
use Rattle.clock_json.specs.Reading.{Fields, field_before, found_members}
use Rattle.clock_json.specs.Members.{with_field, is_before, is_field}

put_first_at : (o : Ordering) (name key : List ℕ) (d : Data) (value : Option Data) (fields : Fields) → slice_cmp nat_cmp
    name key ≡ o → match_ordering o (is_before name fields) false false ≡ true → (is_before name fields ≡ true
    → put name d (found_members fields) ≡ member name d (found_members fields)) → put name d
    (field_before key value (found_members fields)) ≡ member name d (field_before key value (found_members fields))
put_first_at Less name key d None fields is h later = later h
put_first_at Less name key d (Some e) fields is h later = rw is refl
put_first_at Equal name key d value fields is h later = absurd (false≢true h)
put_first_at Greater name key d value fields is h later = absurd (false≢true h)

-- a key that comes before all others
put_first : (name : List ℕ) (d : Data) (fields : Fields) → is_before name fields ≡ true
    → put name d (found_members fields) ≡ member name d (found_members fields)
put_first name d [] h = refl
put_first name d (field ∷ fields) h =
    put_first_at (slice_cmp nat_cmp name field.0) name field.0 d field.1 fields refl h (put_first name d fields)

same_key : (name key : List ℕ) → slice_cmp nat_cmp name key ≡ Equal → name ≡ key
same_key name key is = (bytes_eq-Decides name key).0 (sym (is_eq-slice_cmp name key) ∙ ap is_eq is)

put_in_at : (o : Ordering) (name key : List ℕ) (d : Data) (value : Option Data) (fields : Fields) → slice_cmp nat_cmp
    name key ≡ o → match_ordering o false (is_before name fields) (is_field name fields) ≡ true → (is_field name fields
    ≡ true → put name d (found_members fields) ≡ found_members (with_field name (Some d) fields))
    → put name d (field_before key value (found_members fields)) ≡ found_members (match_ordering o ((key, value)
    ∷ with_field name (Some d) fields) ((name, Some d) ∷ fields) ((key, value) ∷ with_field name (Some d) fields))
put_in_at Less name key d value fields is h later = absurd (false≢true h)
put_in_at Equal name key d None fields is h later = put_first name d fields h
put_in_at Equal name key d (Some e) fields is h later =
    rw is (ap (λ k. member k d (found_members fields)) (sym (same_key name key is)))
put_in_at Greater name key d None fields is h later = later h
put_in_at Greater name key d (Some e) fields is h later = rw is (ap (member key e) (later h))

-- the members that were found, with one more under one of the keys
pub put_in : (name : List ℕ) (d : Data) (fields : Fields) → is_field name fields ≡ true
    → put name d (found_members fields) ≡ found_members (with_field name (Some d) fields)
put_in name d [] h = absurd (false≢true h)
put_in name d (field ∷ fields) h =
    put_in_at (slice_cmp nat_cmp name field.0) name field.0 d field.1 fields refl h (put_in name d fields)
