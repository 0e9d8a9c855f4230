-- A name has no character that JSON escapes.
use Rattle.std.proofs.Common.{◌≡◌, ℕ, ◌≤◌, ◌≢◌, List, [], ◌∷◌, ◌++◌, Bool, true, false, ◌&&◌, refl, ap₂, arith}
use Rattle.std.proofs.lemmas.Bool.Decides.{nat_tests}
use Rattle.std.specs.List.{list_all}
use Rattle.std.proofs.lemmas.List.Sums.{list_all-from_AllPass}
use Rattle.json.specs.Print.{escape_byte, escape}
use Rattle.clock_terms.specs.Limits.{is_name_character, IsName}

plain_byte : (c : ℕ) → 32 ≤ c → c ≢ 34 → c ≢ 92 → escape_byte c ≡ c ∷ []
unfolding escape_byte
plain_byte c low quote backslash = grind (arith, nat_tests)

name_character : (c : ℕ) → is_name_character c ≡ true → (32 ≤ c) × (c ≢ 34) × (c ≢ 92)
name_character c h = grind (arith, nat_tests)

and_both : (a b : Bool) → (a && b) ≡ true → (a ≡ true) × (b ≡ true)
and_both true true h = (refl, refl)
and_both true false h = (refl, h)
and_both false b h = absurd (cc)

plain_text : (s : List ℕ) → list_all is_name_character s ≡ true → escape s ≡ s
plain_text [] h = refl
plain_text (c ∷ s) h =
    let both = and_both (is_name_character c) (list_all is_name_character s) h in
    let here = name_character c both.0 in
    ap₂ (λ x y. x ++ y) (plain_byte c here.0 here.1 here.2) (plain_text s both.1)

pub plain_name : (name : List ℕ) → IsName name → escape name ≡ name
plain_name name is = plain_text name (list_all-from_AllPass is_name_character name is.1)
