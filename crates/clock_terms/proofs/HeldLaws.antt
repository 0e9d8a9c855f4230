-- Laws of rows as lists of entries: what an entry at an index says of the demand for its product, and what replacing,
-- inserting, or removing an entry changes. Most are by induction over the entries, whose products rise.
use Rattle.std.proofs.Common.{◌≡◌, ◌≢◌, ℕ, ◌+◌, ◌<◌, ◌≤◌, ◌==◌, zero, suc, List, [], ◌∷◌, ◌++◌, length, drop, get_or}
use Rattle.std.proofs.Common.{set, insert, remove, replicate, if◌then◌else◌, refl, sym, ap, subst, ◌∙◌, ⊎_elim, ne_eqb}
use Rattle.std.proofs.Common.{eq-eqb, arith}
use Rattle.std.proofs.lemmas.Bool.{cases_eq}
use Rattle.std.proofs.lemmas.List.{drop_more, drop_all, ext_get_or, length-set, length-replicate, get_or-replicate}
use Rattle.std.proofs.lemmas.List.{get_or-set_same, get_or-set_other}
use Rattle.std.proofs.lemmas.List.FromFn.{length-map-range_with_len, get_or-map-range_with_len}
use Rattle.std.specs.List.{AllWithin}
use Rattle.clock_terms.specs.Limits.{most_supply}
use Rattle.clock_terms.specs.declared.held_list.PositiveDemand.{PositiveDemand}
use Rattle.clock_terms.specs.HeldDemands.{demand_for, demands_of, next_of}
use Rattle.clock_terms.specs.inside.Rows.{ArePositiveDemands, IsStored, IsAtIndex}

-- the demand for the product of the first entry
at_first : (one : PositiveDemand) (held : List PositiveDemand) (product : ℕ) → one.product ≡ product
    → demand_for (one ∷ held) product ≡ one.demand
unfolding demand_for
at_first one held product same =
    ap (λ test. if test then one.demand else demand_for held product) (eq-eqb one.product product same)

-- the demand for another product is in the entries after the first
behind : (one : PositiveDemand) (held : List PositiveDemand) (product : ℕ) → one.product ≢ product
    → demand_for (one ∷ held) product ≡ demand_for held product
unfolding demand_for
behind one held product other =
    ap (λ test. if test then one.demand else demand_for held product) (ne_eqb one.product product other)

-- the demand for a product is in its entry at index `place`, if all entries before are for lower products
pub found : (held : List PositiveDemand) (product place : ℕ) (other : PositiveDemand)
    → AllWithin (λ one. one.product < product) held 0 place → place < length held
    → (get_or held place other).product ≡ product → demand_for held product ≡ (get_or held place other).demand
found [] product place other smaller within here = absurd (omega (arith, within))
found (one ∷ held) product zero other smaller within here = at_first one held product here
found (one ∷ held) product (suc place) other smaller within here = behind one held product
    (λ same. omega (arith, same, smaller 0 other (omega arith) (omega arith))) ∙ found held product place other
    (λ k d low high. smaller (suc k) d (omega arith) (omega (arith, high))) (omega (arith, within)) here

-- a product below the first entry's has a demand of 0
pub none_before : (from : ℕ) (held : List PositiveDemand) (count product : ℕ) → ArePositiveDemands from held count
    → product < from → demand_for held product ≡ 0
unfolding ArePositiveDemands demand_for
none_before from [] count product are below = refl
none_before from (one ∷ held) count product are below =
    behind one held product (λ same. omega (arith, same, are.0, below))
    ∙ none_before (one.product + 1) held count product are.3 (omega (arith, are.0, below))

-- so has a product between two entries that follow each other
pub missing : (from : ℕ) (held : List PositiveDemand) (count product place : ℕ) (other : PositiveDemand)
    → ArePositiveDemands from held count → AllWithin (λ one. one.product < product) held 0 place
    → (place < length held → product < (get_or held place other).product) → demand_for held product ≡ 0
unfolding ArePositiveDemands demand_for
missing from [] count product place other are smaller next = refl
missing from (one ∷ held) count product zero other are smaller next =
    let above : product < one.product = next (omega arith) in
    behind one held product (λ same. omega (arith, same, above))
    ∙ none_before (one.product + 1) held count product are.3 (omega (arith, above))
missing from (one ∷ held) count product (suc place) other are smaller next =
    behind one held product (λ same. omega (arith, same, smaller 0 other (omega arith) (omega arith)))
    ∙ missing (one.product + 1) held count product place other are.3
    (λ k d low high. smaller (suc k) d (omega arith) (omega (arith, high))) (λ within. next (omega (arith, within)))

-- there are no more entries than products
pub counted : (from : ℕ) (held : List PositiveDemand) (count : ℕ) → ArePositiveDemands from held count
    → from + length held ≤ count
unfolding ArePositiveDemands
counted from [] count are = omega (arith, are)
counted from (one ∷ held) count are = omega (arith, are.0, counted (one.product + 1) held count are.3)

-- no demand is above a thousand
pub small : (from : ℕ) (held : List PositiveDemand) (count product : ℕ) → ArePositiveDemands from held count
    → demand_for held product ≤ most_supply
unfolding ArePositiveDemands demand_for
small from [] count product are = omega arith
small from (one ∷ held) count product are =
    ⊎_elim
    (λ same. omega (arith, at_first one held product same, are.2))
    (λ other. omega (arith, behind one held product other, small (one.product + 1) held count product are.3))
    (cases_eq one.product product)

-- no entry has a demand above a thousand
pub small_at : (from : ℕ) (held : List PositiveDemand) (count place : ℕ) (d : PositiveDemand)
    → ArePositiveDemands from held count → place < length held → (get_or held place d).demand ≤ most_supply
unfolding ArePositiveDemands
small_at from [] count place d are within = absurd (omega (arith, within))
small_at from (one ∷ held) count zero d are within = are.2
small_at from (one ∷ held) count (suc place) d are within =
    small_at (one.product + 1) held count place d are.3 (omega (arith, within))

-- no entry is for a product below `from`
first_least : (from : ℕ) (held : List PositiveDemand) (count place : ℕ) (d : PositiveDemand)
    → ArePositiveDemands from held count → place < length held → from ≤ (get_or held place d).product
unfolding ArePositiveDemands
first_least from [] count place d are within = absurd (omega (arith, within))
first_least from (one ∷ held) count zero d are within = are.0
first_least from (one ∷ held) count (suc place) d are within =
    omega (arith, are.0, first_least (one.product + 1) held count place d are.3 (omega (arith, within)))

-- of two entries, the later is for the higher product
pub rising : (from : ℕ) (held : List PositiveDemand) (count k place : ℕ) (d e : PositiveDemand) → ArePositiveDemands
    from held count → k < place → place < length held → (get_or held k d).product < (get_or held place e).product
unfolding ArePositiveDemands
rising from [] count k place d e are before within = absurd (omega (arith, within))
rising from (one ∷ held) count k zero d e are before within = absurd (omega (arith, before))
rising from (one ∷ held) count zero (suc place) d e are before within =
    omega (arith, first_least (one.product + 1) held count place e are.3 (omega (arith, within)))
rising from (one ∷ held) count (suc k) (suc place) d e are before within =
    rising (one.product + 1) held count k place d e are.3 (omega (arith, before)) (omega (arith, within))

-- if the entry at index `place` is for the product, all entries before are for lower ones
pub stands : (held : List PositiveDemand) (count product place : ℕ) → ArePositiveDemands 0 held count → (place
    < length held) × ((d : PositiveDemand) → (get_or held place d).product ≡ product) → IsAtIndex held product place
stands held count product place are here = (
  (
    omega (arith, here.0),
    λ k d low high. subst (λ p. (get_or held k d).product < p) (here.1 d)
        (rising 0 held count k place d d are high here.0),
  ),
  here.0,
  here.1,
)

-- each entry has a positive demand, and a product below `count`
pub held_at : (from : ℕ) (held : List PositiveDemand) (count place : ℕ) (d : PositiveDemand) → ArePositiveDemands from
    held count → place < length held → (0 < (get_or held place d).demand) × ((get_or held place d).product < count)
unfolding ArePositiveDemands
held_at from [] count place d are within = absurd (omega (arith, within))
held_at from (one ∷ held) count zero d are within = (are.1, omega (arith, counted (one.product + 1) held count are.3))
held_at from (one ∷ held) count (suc place) d are within =
    held_at (one.product + 1) held count place d are.3 (omega (arith, within))

-- the demand for a product in a row of `count` products
pub shown : (count : ℕ) (held : List PositiveDemand) (product d : ℕ) → product < count
    → get_or (demands_of count held) product d ≡ demand_for held product
shown count held product d within =
    get_or-map-range_with_len (demand_for held) 0 count product product d within (omega arith)

pub length-demands : (count : ℕ) (held : List PositiveDemand) → length (demands_of count held) ≡ count
length-demands count held = length-map-range_with_len (demand_for held) 0 count

-- a product of a row is below its `count`
pub below_count : (count : ℕ) (held : List PositiveDemand) (row : List ℕ) (product : ℕ) → demands_of count held ≡ row
    → product < length row → product < count
below_count count held row product is within =
    omega (arith, ap (λ (list : List ℕ). length list) is, length-demands count held, within)

-- the demand in the entries is the one in the row
pub kept_demand : (count : ℕ) (held : List PositiveDemand) (row : List ℕ) (product : ℕ) → demands_of count held ≡ row
    → product < length row → demand_for held product ≡ get_or row product 0
kept_demand count held row product is within = sym (shown count held product 0
    (below_count count held row product is within)) ∙ ap (λ (list : List ℕ). get_or list product 0) is

-- so is a demand that was read from the entries
pub read_demand : (count : ℕ) (held seen : List PositiveDemand) (row : List ℕ) (product demand : ℕ) → demands_of count
    held ≡ row → product < length row → seen ≡ held → demand ≡ demand_for seen product → demand ≡ get_or row product 0
read_demand count held seen row product demand is within same read = read
    ∙ ap (λ (list : List PositiveDemand). demand_for list product) same ∙ kept_demand count held row product is within

-- an empty list of entries is in order
pub order_none : (held : List PositiveDemand) (count : ℕ) → held ≡ [] → ArePositiveDemands 0 held count
unfolding ArePositiveDemands
order_none held count none =
    subst (λ (list : List PositiveDemand). ArePositiveDemands 0 list count) (sym none) (omega arith)

-- without entries each demand is 0
pub none_held : (count : ℕ) → demands_of count [] ≡ replicate count 0
unfolding demand_for
none_held count =
    ext_get_or 0 (demands_of count []) (replicate count 0) (length-demands count [] ∙ sym (length-replicate count 0))
    (λ k below.
    let inside : k < count = omega (arith, below, length-demands count []) in
    shown count [] k 0 inside ∙ sym (get_or-replicate count k 0 0 inside))

-- ---- iterators

-- an iterator that has not ended gives the product of the next entry
pub next_at : (count : ℕ) (held : List PositiveDemand) (given : ℕ) (d : PositiveDemand) → given < length held
    → next_of count (drop given held) ≡ (get_or held given d).product
next_at count held given d within = ap (λ left. next_of count left) (drop_more held given d within)

-- one that has ended gives the number of products
pub next_none : (count : ℕ) (held : List PositiveDemand) (given : ℕ) → length held ≤ given
    → next_of count (drop given held) ≡ count
next_none count held given past = ap (λ left. next_of count left) (drop_all given held past)

-- the next product is at most the number of products
pub most_next : (count : ℕ) (held : List PositiveDemand) → ArePositiveDemands 0 held count → next_of count held ≤ count
unfolding ArePositiveDemands
most_next count [] are = omega arith
most_next count (one ∷ held) are = omega (arith, counted (one.product + 1) held count are.3)

-- a product between the entries that were visited and the next one has a demand of 0
pub gap : (count : ℕ) (held : List PositiveDemand) (given product : ℕ) → ArePositiveDemands 0 held count
    → AllWithin (λ one. one.product < product) held 0 given → product < next_of count (drop given held)
    → demand_for held product ≡ 0
gap count held given product are smaller below =
    let none : PositiveDemand = record { product = 0; demand = 0 } in
    missing 0 held count product given none are smaller
    (λ within. omega (arith, below, next_at count held given none within))

-- so each demand of a row before the first entry's product is 0
pub none_first : (count : ℕ) (held : List PositiveDemand) (demands : List ℕ) (first : ℕ)
    → ArePositiveDemands 0 held count → demands_of count held ≡ demands → first ≡ next_of count held
    → AllWithin (λ demand. demand ≡ 0) demands 0 first
none_first count held demands first are is same k d low high =
    ap (λ (list : List ℕ). get_or list k d) (sym is)
    ∙ shown count held k d (omega (arith, same, high, most_next count held are))
    ∙ gap count held 0 k are (λ n e from to. absurd (omega (arith, to))) (omega (arith, same, high))

-- ---- one demand changed

-- a change after an entry for a lower product
stored_behind : (first : PositiveDemand) (held after : List PositiveDemand) (product demand : ℕ) → first.product
    < product → IsStored held after product demand → IsStored (first ∷ held) (first ∷ after) product demand
stored_behind first held after product demand smaller stored other = ⊎_elim (λ (here : first.product ≡ other).
    at_first first after other here ∙ sym (at_first first held other here) ∙ sym (ap (λ test. if test then demand
    else demand_for (first ∷ held) other) (ne_eqb product other (λ same. omega (arith, same, here, smaller)))))
    (λ (elsewhere : first.product ≢ other). behind first after other elsewhere ∙ stored other ∙ ap (λ (rest : ℕ).
    if product == other then demand else rest) (sym (behind first held other elsewhere))) (cases_eq first.product other)

-- the first entry replaced
stored_first : (one first : PositiveDemand) (held : List PositiveDemand) → first.product ≡ one.product
    → IsStored (first ∷ held) (one ∷ held) one.product one.demand
stored_first one first held same other = ⊎_elim (λ (here : one.product ≡ other). at_first one held other here
    ∙ sym (ap (λ test. if test then one.demand else demand_for (first ∷ held) other) (eq-eqb one.product other here)))
    (λ (elsewhere : one.product ≢ other). behind one held other elsewhere ∙ sym (behind first held other
    (λ (at : first.product ≡ other). elsewhere (sym same ∙ at))) ∙ sym (ap (λ test. if test then one.demand
    else demand_for (first ∷ held) other) (ne_eqb one.product other elsewhere))) (cases_eq one.product other)

-- the entry at index `place` replaced
pub stored_set : (held : List PositiveDemand) (place : ℕ) (one : PositiveDemand)
    → AllWithin (λ other. other.product < one.product) held 0 place → place < length held
    → (get_or held place one).product ≡ one.product → IsStored held (set held place one) one.product one.demand
stored_set [] place one smaller within same = absurd (omega (arith, within))
stored_set (first ∷ held) zero one smaller within same = stored_first one first held same
stored_set (first ∷ held) (suc place) one smaller within same = stored_behind first held
    (set held place one) one.product one.demand (smaller 0 one (omega arith) (omega arith)) (stored_set held place one
    (λ k d low high. smaller (suc k) d (omega arith) (omega (arith, high))) (omega (arith, within)) same)

-- an entry inserted at index `place`
pub stored_insert : (held : List PositiveDemand) (place : ℕ) (one : PositiveDemand) → AllWithin (λ other. other.product
    < one.product) held 0 place → place ≤ length held → IsStored held (insert held place one) one.product one.demand
unfolding demand_for
stored_insert held zero one smaller within other = refl
stored_insert [] (suc place) one smaller within other = absurd (omega (arith, within))
stored_insert (first ∷ held) (suc place) one smaller within other = stored_behind first held (insert held place one)
    one.product one.demand (smaller 0 one (omega arith) (omega arith)) (stored_insert held place one
    (λ k d low high. smaller (suc k) d (omega arith) (omega (arith, high))) (omega (arith, within))) other

-- the entry at index `place` removed
pub stored_remove : (from : ℕ) (held : List PositiveDemand) (count place product : ℕ) (d : PositiveDemand)
    → ArePositiveDemands from held count → AllWithin (λ other. other.product < product) held 0 place
    → place < length held → (get_or held place d).product ≡ product → IsStored held (remove held place) product 0
unfolding ArePositiveDemands
stored_remove from [] count place product d are smaller within same other = absurd (omega (arith, within))
stored_remove from (first ∷ held) count zero product d are smaller within same other =
    ⊎_elim
    (λ (here : product ≡ other).
    none_before (first.product + 1) held count other are.3 (omega (arith, same, here))
    ∙ sym (ap (λ test. if test then 0 else demand_for (first ∷ held) other) (eq-eqb product other here)))
    (λ (elsewhere : product ≢ other).
    sym (behind first held other (λ (at : first.product ≡ other). elsewhere (sym same ∙ at)))
    ∙ sym (ap (λ test. if test then 0 else demand_for (first ∷ held) other) (ne_eqb product other elsewhere)))
    (cases_eq product other)
stored_remove from (first ∷ held) count (suc place) product d are smaller within same other =
    stored_behind first held (remove held place) product 0 (smaller 0 d (omega arith) (omega arith))
    (stored_remove (first.product + 1) held count place product d are.3
    (λ k e low high. smaller (suc k) e (omega arith) (omega (arith, high))) (omega (arith, within)) same) other

-- the row after one of its demands changed
pub updated : (count : ℕ) (held after : List PositiveDemand) (product demand : ℕ) → IsStored held after product demand
    → product < count → demands_of count after ≡ set (demands_of count held) product demand
updated count held after product demand stored within =
    let row = demands_of count held in
    ext_get_or 0 (demands_of count after) (set row product demand)
    (length-demands count after ∙ sym (length-demands count held) ∙ sym (length-set row product demand))
    (λ other below.
    let inside : other < count = omega (arith, below, length-demands count after) in
    shown count after other 0 inside ∙ stored other
    ∙ ⊎_elim
    (λ (here : product ≡ other).
    ap (λ test. if test then demand else demand_for held other) (eq-eqb product other here)
    ∙ sym (get_or-set_same row product demand 0 (omega (arith, within, length-demands count held)))
    ∙ ap (λ (n : ℕ). get_or (set row product demand) n 0) here)
    (λ (elsewhere : product ≢ other).
    ap (λ test. if test then demand else demand_for held other) (ne_eqb product other elsewhere)
    ∙ sym (shown count held other 0 inside)
    ∙ sym (get_or-set_other row product other demand 0 (λ (same : other ≡ product). elsewhere (sym same))))
    (cases_eq product other))

-- storing a demand of 0 for a product without an entry changes nothing
pub stored_none : (held : List PositiveDemand) (product : ℕ) → demand_for held product ≡ 0
    → IsStored held held product 0
stored_none held product none other = ⊎_elim (λ (here : product ≡ other). ap (demand_for held) (sym here) ∙ none
    ∙ sym (ap (λ test. if test then 0 else demand_for held other) (eq-eqb product other here)))
    (λ (elsewhere : product ≢ other). sym (ap (λ test. if test then 0 else demand_for held other)
    (ne_eqb product other elsewhere))) (cases_eq product other)

-- ---- changes leave the entries in order

-- entries with products from `from` on also have products from a lower number on
held_lower : (from low : ℕ) (held : List PositiveDemand) (count : ℕ) → ArePositiveDemands from held count → low ≤ from
    → ArePositiveDemands low held count
unfolding ArePositiveDemands
held_lower from low [] count are below = omega (arith, are, below)
held_lower from low (one ∷ held) count are below = (omega (arith, are.0, below), are.1, are.2, are.3)

pub held_set : (from : ℕ) (held : List PositiveDemand) (count place : ℕ) (one : PositiveDemand)
    → ArePositiveDemands from held count → place < length held → (get_or held place one).product ≡ one.product
    → 0 < one.demand → one.demand ≤ most_supply → ArePositiveDemands from (set held place one) count
unfolding ArePositiveDemands
held_set from [] count place one are within same some few = absurd (omega (arith, within))
held_set from (first ∷ held) count zero one are within same some few = (
  omega (arith, are.0, same),
  some,
  few,
  held_lower (first.product + 1) (one.product + 1) held count are.3 (omega (arith, same)),
)
held_set from (first ∷ held) count (suc place) one are within same some few =
    (are.0, are.1, are.2, held_set (first.product + 1) held count place one are.3 (omega (arith, within)) same some few)

pub held_insert : (from : ℕ) (held : List PositiveDemand) (count place : ℕ) (one : PositiveDemand) → ArePositiveDemands
    from held count → from ≤ one.product → one.product < count → 0 < one.demand → one.demand ≤ most_supply
    → AllWithin (λ other. other.product < one.product) held 0 place → place ≤ length held → (place < length held
    → one.product < (get_or held place one).product) → ArePositiveDemands from (insert held place one) count
unfolding ArePositiveDemands
held_insert from [] count zero one are low high some few smaller within next = (low, some, few, omega (arith, high))
held_insert from (first ∷ held) count zero one are low high some few smaller within next =
    (low, some, few, (omega (arith, next (omega arith)), are.1, are.2, are.3))
held_insert from [] count (suc place) one are low high some few smaller within next = absurd (omega (arith, within))
held_insert from (first ∷ held) count (suc place) one are low high some few smaller within next = (
  are.0,
  are.1,
  are.2,
  held_insert (first.product + 1) held count place one are.3 (omega (arith, smaller 0 one (omega arith) (omega arith)))
      high some few (λ k d below above. smaller (suc k) d (omega arith) (omega (arith, above))) (omega (arith, within))
      (λ inside. next (omega (arith, inside))),
)

pub held_remove : (from : ℕ) (held : List PositiveDemand) (count place : ℕ) → ArePositiveDemands from held count
    → place < length held → ArePositiveDemands from (remove held place) count
unfolding ArePositiveDemands
held_remove from [] count place are within = absurd (omega (arith, within))
held_remove from (first ∷ held) count zero are within =
    held_lower (first.product + 1) from held count are.3 (omega (arith, are.0))
held_remove from (first ∷ held) count (suc place) are within =
    (are.0, are.1, are.2, held_remove (first.product + 1) held count place are.3 (omega (arith, within)))

-- ---- one more entry at the end

pub held_push : (from : ℕ) (held : List PositiveDemand) (count : ℕ) (one : PositiveDemand)
    → ArePositiveDemands from held count → count ≤ one.product → 0 < one.demand → one.demand ≤ most_supply
    → ArePositiveDemands from (held ++ one ∷ []) (one.product + 1)
unfolding ArePositiveDemands
held_push from [] count one are behind some few = (omega (arith, are, behind), some, few, omega arith)
held_push from (first ∷ held) count one are behind some few =
    (are.0, are.1, are.2, held_push (first.product + 1) held count one are.3 behind some few)

-- entries with products below `count` also have products below a higher number
pub held_more : (from : ℕ) (held : List PositiveDemand) (count more : ℕ) → ArePositiveDemands from held count
    → count ≤ more → ArePositiveDemands from held more
unfolding ArePositiveDemands
held_more from [] count more are order = omega (arith, are, order)
held_more from (one ∷ held) count more are order =
    (are.0, are.1, are.2, held_more (one.product + 1) held count more are.3 order)

-- a product above all entries' has a demand of 0
pub none_behind : (from : ℕ) (held : List PositiveDemand) (count product : ℕ) → ArePositiveDemands from held count
    → count ≤ product → demand_for held product ≡ 0
unfolding ArePositiveDemands demand_for
none_behind from [] count product are past = refl
none_behind from (one ∷ held) count product are past =
    behind one held product (λ same. omega (arith, same, past, counted (one.product + 1) held count are.3))
    ∙ none_behind (one.product + 1) held count product are.3 past

-- an entry added at the end changes no other product's demand
pub push_other : (held : List PositiveDemand) (one : PositiveDemand) (product : ℕ) → one.product ≢ product
    → demand_for (held ++ one ∷ []) product ≡ demand_for held product
unfolding demand_for
push_other [] one product other = behind one [] product other
push_other (first ∷ held) one product other =
    ap (λ (rest : ℕ). if first.product == product then first.demand else rest) (push_other held one product other)

pub push_here : (from : ℕ) (held : List PositiveDemand) (count : ℕ) (one : PositiveDemand)
    → ArePositiveDemands from held count → count ≤ one.product → demand_for (held ++ one ∷ []) one.product ≡ one.demand
unfolding ArePositiveDemands
push_here from [] count one are past = at_first one [] one.product refl
push_here from (first ∷ held) count one are past = behind first (held ++ one ∷ []) one.product
    (λ same. omega (arith, same, past, counted (first.product + 1) held count are.3))
    ∙ push_here (first.product + 1) held count one are.3 past
