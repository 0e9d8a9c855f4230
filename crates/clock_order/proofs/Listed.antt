-- A look-up in the hash map finds what a search of the list of tie-breaking numbers finds: entries are in the order of
-- insertion, and both compare bidder and product.
use Rattle.std.proofs.Common.{◌≡◌, ℕ, List, [], ◌∷◌, Bool, true, false, cond, ◌&&◌, ◌||◌, ◌==◌, map, find, Option, Some}
use Rattle.std.proofs.Common.{is_some, unwrap_or, refl, sym, ap, ◌∙◌}
use Rattle.std.specs.Cmp.{nat_eq_equiv}
use Rattle.std.specs.List.{list_any}
use Rattle.std.specs.Map.{lookup}
use Rattle.std.specs.Option.{option_map_or}
use Rattle.clock_order.specs.declared.ties.Tie.{Tie}
use Rattle.clock_order.specs.Entries.{tie_of}
use Rattle.clock_order.specs.Ties.{tie_number, is_tie_of}

-- the key is this pair of bidder and product
abbrev pub is_key : ℕ → ℕ → ℕ × ℕ → Bool
is_key bidder product key = (bidder == key.0) && (product == key.1)

-- both compare bidder and product
is_tie_of-tie_of : (bidder product : ℕ) (entry : (ℕ × ℕ) × ℕ)
    → is_tie_of bidder product (tie_of entry) ≡ is_key bidder product entry.0
is_tie_of-tie_of bidder product entry = ap (λ x. x && (entry.0.1 == product)) (nat_eq_equiv.symm entry.0.0 bidder)
    ∙ ap (λ x. (bidder == entry.0.0) && x) (nat_eq_equiv.symm entry.0.1 product)

found : (test other : Bool) (number : ℕ) (tie : Tie) (rest : Option ℕ) (others : Option Tie) → other ≡ test
    → tie.number ≡ number → unwrap_or rest 0 ≡ option_map_or (λ t. t.number) others 0
    → unwrap_or (cond test (Some number) rest) 0 ≡ option_map_or (λ t. t.number) (cond other (Some tie) others) 0
found true true number tie rest others e f g = sym f
found false false number tie rest others e f g = g
found true false number tie rest others e f g = let bad : false ≡ true = e in cc
found false true number tie rest others e f g = let bad : true ≡ false = e in cc

-- the value of a pair in the map, or 0, is its tie-breaking number
pub tie_number-entries : (bidder product : ℕ) (entries : List ((ℕ × ℕ) × ℕ)) →
    unwrap_or (lookup (is_key bidder product) entries) 0 ≡ tie_number (map tie_of entries) bidder product
tie_number-entries bidder product [] = refl
tie_number-entries bidder product (entry ∷ entries) = found (is_key bidder product entry.0) (is_tie_of bidder product
    (tie_of entry)) entry.1 (tie_of entry) (lookup (is_key bidder product) entries) (find (is_tie_of bidder product)
    (map tie_of entries)) (is_tie_of-tie_of bidder product entry) refl (tie_number-entries bidder product entries)

present : (test other : Bool) (number : ℕ) (rest : Option ℕ) (others : Bool) → other ≡ test → is_some rest ≡ others
    → is_some (cond test (Some number) rest) ≡ other || others
present true true number rest others e f = refl
present false false number rest others e f = f
present true false number rest others e f = let bad : false ≡ true = e in cc
present false true number rest others e f = let bad : true ≡ false = e in cc

-- the map has a pair exactly if the list has it
pub list_any-entries : (bidder product : ℕ) (entries : List ((ℕ × ℕ) × ℕ)) →
    is_some (lookup (is_key bidder product) entries) ≡ list_any (is_tie_of bidder product) (map tie_of entries)
list_any-entries bidder product [] = refl
list_any-entries bidder product (entry ∷ entries) = present (is_key bidder product entry.0) (is_tie_of bidder product
    (tie_of entry)) entry.1 (lookup (is_key bidder product) entries) (list_any (is_tie_of bidder product)
    (map tie_of entries)) (is_tie_of-tie_of bidder product entry) (list_any-entries bidder product entries)
