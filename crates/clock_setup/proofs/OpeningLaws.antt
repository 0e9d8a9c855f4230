-- Laws of the checks of an opening document: which fault is the first, and what is known if there is none. The checks
-- of a list of demands or of bidders follow item by item.
use Rattle.std.proofs.Common.{◌≡◌, ℕ, ◌+◌, ◌*◌, ◌<◌, ◌≤◌, All, ◌==◌, Bool, true, false, nat_le, if◌then◌else◌, List, []}
use Rattle.std.proofs.Common.{◌∷◌, length, get_or, drop, zero, suc, inl, inr, ⊎_elim}
use Rattle.std.proofs.Common.{zip, Option, Some, None, Ok, Err, refl, sym, ap, ◌∙◌, subst, arith}
use Rattle.std.specs.List.{list_all, AllPass, AllWithin}
use Rattle.std.proofs.lemmas.Bool.{and_parts, le-leb, lt-leb, cases_lt, cases_order}
use Rattle.std.proofs.lemmas.Bool.Decides.{nat_tests}
use Rattle.std.proofs.lemmas.List.{get_or_default, drop_all, drop_more}
use Rattle.std.proofs.lemmas.List.Sums.{AllPass-from_list_all, sum_by-cons}
use Rattle.std.proofs.lemmas.Nat.{mul-le}
use Rattle.std.proofs.lemmas.Slice.Zip.{get_or-zip, length-zip}
use Rattle.serde_json.specs.Data.{Data}
use Rattle.clock_json.specs.Tree.{each}
use Rattle.clock_terms.specs.declared.setup.Product.{Product}
use Rattle.clock_terms.specs.declared.setup.Bidder.{Bidder}
use Rattle.clock_setup.specs.declared.opening.OpeningFault.{OpeningFault}
use Rattle.clock_setup.specs.declared.opening.OpeningFault.TheVariants.{Shape, Demand, Activity, Increment}
use Rattle.clock_terms.specs.Demands.{IsGrid}
use Rattle.clock_terms.specs.Eligibility.{activity}
use Rattle.clock_terms.specs.Faults.{first_fault, in_turn}
use Rattle.clock_terms.specs.Limits.{SetupFields, IsProduct, is_within, cap_of, no_product, least_increment}
use Rattle.clock_terms.specs.Limits.{most_increment}
use Rattle.clock_setup.specs.SetupDocument.{setup_of}
use Rattle.clock_setup.specs.OpeningShape.{OpeningParts, opening_parts}
use Rattle.clock_setup.specs.OpeningDocument.{has_counts, demand_checks, row_checks, opening_checks, opening_with}
use Rattle.clock_setup.specs.OpeningDocument.{opening_of}
use Rattle.clock_terms.proofs.FaultLaws.{passed, failed, turn_passed, turn_failed, turn_none}

-- an item of two lists paired
pub zip_at : {A B : Type 0} (ks : List A) (vs : List B) (i : ℕ) (a : A) (b : B) → i < length ks → i < length vs
    → a ≡ get_or ks i a → b ≡ get_or vs i b → (a, b) ≡ get_or (zip ks vs) i (a, b)
zip_at ks vs i a b h k first second =
    ap (λ x. (x, b)) first ∙ ap (λ y. (get_or ks i a, y)) second ∙ sym (get_or-zip ks vs i (a, b) h k)

-- a row that is read from a slice
pub row_at : {slice : List (List ℕ)} (rows : List (List ℕ)) (number : ℕ) (row : List ℕ) → slice ≡ rows
    → number < length rows → row ≡ get_or slice number row → row ≡ get_or rows number []
row_at rows number row same within is =
    is ∙ ap (λ (list : List (List ℕ)). get_or list number row) same ∙ get_or_default rows number row [] within

-- a bidder with its row, if the bidders are read from a slice
pub row_line : {slice : List Bidder} (bidders : List Bidder) (rows : List (List ℕ)) (number : ℕ) (bidder : Bidder)
    (row : List ℕ) → slice ≡ bidders → number < length slice → length rows ≡ length bidders
    → bidder ≡ get_or slice number bidder → row ≡ get_or rows number []
    → ((bidder, row) ≡ get_or (zip bidders rows) number (bidder, row)) × (number < length (zip bidders rows))
row_line bidders rows number bidder row same within count first second =
    let here : number < length bidders = omega (arith, within, ap length same) in
    let nested : number < length rows = omega (arith, here, count) in (
      zip_at bidders rows number bidder row here nested (first ∙ ap (λ list. get_or list number bidder) same)
          (second ∙ get_or_default rows number [] row nested),
      omega (arith, length-zip bidders rows, count, here),
    )

line_at : (products : List Product) (row : List ℕ) (i : ℕ) (d : Product) → length row ≡ length products → i < length row
    → (get_or products i d, get_or row i 0) ≡ get_or (zip products row) i (get_or products i d, get_or row i 0)
line_at products row i d same h =
    let within : i < length products = omega arith in
    zip_at products row i (get_or products i d) (get_or row i 0) within h
    (get_or_default products i d (get_or products i d) within) (get_or_default row i 0 (get_or row i 0) h)

line_within : (products : List Product) (row : List ℕ) (i : ℕ) → length row ≡ length products → i < length row
    → i < length (zip products row)
line_within products row i same h = omega (arith, length-zip products row)

-- the first fault of one demand
pub one_demand : (number i : ℕ) (p : Product) (demand : ℕ) (b : Bool) → nat_le demand p.cap ≡ b
    → first_fault (demand_checks number i (p, demand)) ≡ (if b then None else Some (Demand number i))
unfolding demand_checks
one_demand number i p demand b is = rw is refl

-- a demand above its cap is the first fault of those left
pub demand_failed : (number : ℕ) (products : List Product) (row : List ℕ) (i : ℕ) (d : Product)
    → length row ≡ length products → i < length row → (get_or products i d).cap < get_or row i 0
    → first_fault (in_turn (demand_checks number) i (drop i (zip products row))) ≡ Some (Demand number i)
demand_failed number products row i d same h above =
    turn_failed (demand_checks number) (zip products row) i (get_or products i d, get_or row i 0) (Demand number i)
    (line_within products row i same h) (line_at products row i d same h) (one_demand number i (get_or products i d)
    (get_or row i 0) false (lt-leb (get_or row i 0) (get_or products i d).cap above))

-- a demand within its cap leaves the first fault to those after it
pub demand_passed : (number : ℕ) (products : List Product) (row : List ℕ) (i : ℕ) (d : Product)
    → length row ≡ length products → i < length row → get_or row i 0 ≤ (get_or products i d).cap
    → first_fault (in_turn (demand_checks number) i (drop i (zip products row)))
    ≡ first_fault (in_turn (demand_checks number) (i + 1) (drop (i + 1) (zip products row)))
demand_passed number products row i d same h within =
    turn_passed (demand_checks number) (zip products row) i (get_or products i d, get_or row i 0)
    (line_within products row i same h) (line_at products row i d same h) (one_demand number i (get_or products i d)
    (get_or row i 0) true (le-leb (get_or row i 0) (get_or products i d).cap within))

-- no demand is left
pub demands_end : (number : ℕ) (products : List Product) (row : List ℕ) (i : ℕ) → length row ≤ i
    → first_fault (in_turn (demand_checks number) i (drop i (zip products row))) ≡ None
demands_end number products row i h =
    turn_none (demand_checks number) (zip products row) i (omega (arith, length-zip products row))

-- the cap of a product that was read
pub within_cap : (products : List Product) (i : ℕ) (d : Product) (demand : ℕ) → i < length products
    → demand ≤ (get_or products i d).cap → demand ≤ cap_of products i
within_cap products i d demand h within =
    subst (λ n. demand ≤ n) (ap (λ (p : Product). p.cap) (get_or_default products i d no_product h)) within

-- the bidding units of a product's demand
pub units_bounded : (products : List Product) (i : ℕ) (d : Product) (demand : ℕ) → All IsProduct products
    → i < length products → demand ≤ 1000 → (get_or products i d).units * demand ≤ 1000000000
units_bounded products i d demand limits h few =
    let good : IsProduct (get_or products i no_product) = limits i no_product h in
    let units : (get_or products i d).units ≤ 1000000 =
    omega (arith, good.units.1, ap (λ (p : Product). p.units) (get_or_default products i d no_product h)) in
    mul-le _ _ 1000000 1000 units few

-- demands of 0 are within all caps
pub zeros_capped : (products : List Product) (row : List ℕ) (from to : ℕ) → AllWithin (λ demand. demand ≡ 0) row from to
    → (k : ℕ) → from ≤ k → k < to → get_or row k 0 ≤ cap_of products k
zeros_capped products row from to none k low high = omega (arith, none k 0 low high)

-- one positive demand more is within its cap, and so are the demands of 0 before and after it
pub capped_more : (products : List Product) (row : List ℕ) (from place next : ℕ)
    → ((k : ℕ) → k < from → get_or row k 0 ≤ cap_of products k) → AllWithin (λ demand. demand ≡ 0) row from place
    → get_or row place 0 ≤ cap_of products place → AllWithin (λ demand. demand ≡ 0) row (place + 1) next
    → (k : ℕ) → k < next → get_or row k 0 ≤ cap_of products k
capped_more products row from place next before passed here ahead k below =
    elim (cases_order k place) [
      | inl same ↦ subst (λ (n : ℕ). get_or row n 0 ≤ cap_of products n) (sym same) here
      | inr (inr above) ↦ zeros_capped products row (place + 1) next ahead k (omega (arith, above)) below
      | inr (inl early) ↦ ⊎_elim
          (λ (old : k < from). before k old)
          (λ (late : from ≤ k). zeros_capped products row from place passed k late early) (cases_lt k from)
    ]

-- demands within their caps have no fault
capped_from : (number : ℕ) (products : List Product) (row : List ℕ) (each : length row ≡ length products)
    (capped : (k : ℕ) → k < length row → get_or row k 0 ≤ cap_of products k) (left i : ℕ) → i + left ≡ length row
    → first_fault (in_turn (demand_checks number) i (drop i (zip products row))) ≡ None
capped_from number products row each capped zero i is = demands_end number products row i (omega (arith, is))
capped_from number products row each capped (suc left) i is =
    let within : i < length row = omega (arith, is) in
    demand_passed number products row i no_product each within (capped i within)
    ∙ capped_from number products row each capped left (i + 1) (omega (arith, is))

pub capped_pass : (number : ℕ) (products : List Product) (row : List ℕ) → length row ≡ length products
    → ((k : ℕ) → k < length row → get_or row k 0 ≤ cap_of products k)
    → first_fault (in_turn (demand_checks number) 0 (zip products row)) ≡ None
capped_pass number products row each capped =
    capped_from number products row each capped (length row) 0 (omega arith)

no_demands : (products : List Product) → activity products [] ≡ 0
no_demands [] = refl
no_demands (product ∷ products) = refl

-- the activity of one product, and of those after it
pub activity-at : (products : List Product) (row : List ℕ) (place : ℕ) (one : Product) → place < length row
    → length row ≡ length products → activity (drop place products) (drop place row) ≡ (get_or products place one).units
    * get_or row place 0 + activity (drop (place + 1) products) (drop (place + 1) row)
activity-at products row place one nested each =
    ap (λ list. activity list (drop place row)) (drop_more products place one (omega (arith, nested, each)))
    ∙ ap (λ list. activity (get_or products place one ∷ drop (place + 1) products) list) (drop_more row place 0 nested)
    ∙ sum_by-cons (λ (line : Product × ℕ). line.0.units * line.1) (get_or products place one, get_or row place 0)
    (zip (drop (place + 1) products) (drop (place + 1) row))

-- after the end of the row, activity is 0
pub activity-end : (products : List Product) (row : List ℕ) (place : ℕ) → length row ≤ place
    → activity (drop place products) (drop place row) ≡ 0
activity-end products row place past =
    ap (λ list. activity (drop place products) list) (drop_all place row past) ∙ no_demands (drop place products)

-- the bidding units of a demand within its cap are bounded
pub units_small : (products : List Product) (row : List ℕ) (place : ℕ) (one : Product) → place < length row
    → length row ≡ length products → All IsProduct products → get_or row place 0 ≤ (get_or products place one).cap
    → (get_or products place one).units * get_or row place 0 ≤ 1000000000
units_small products row place one nested each limits within =
    let good : IsProduct (get_or products place one) = limits place one (omega (arith, nested, each)) in
    let demand : get_or row place 0 ≤ 1000 = omega (arith, within, good.cap.1, good.supply.1) in
    let units : (get_or products place one).units ≤ 1000000 = omega (arith, good.units.1) in
    mul-le _ _ 1000000 1000 units demand

-- a row, if the products are read from a slice
module _ {slice products : List Product} (same : slice ≡ products) (number : ℕ) (bidder : Bidder) (row : List ℕ) where
  demands_first : {first : Option OpeningFault} → first_fault (in_turn (demand_checks number) 0 (zip slice row)) ≡ first
      → first_fault (in_turn (demand_checks number) 0 (zip products row)) ≡ first
  demands_first is =
      ap (λ (list : List Product). first_fault (in_turn (demand_checks number) 0 (zip list row))) (sym same) ∙ is

  -- a fault of its demands is the row's
  pub row_failed : (fault : OpeningFault) → first_fault (in_turn (demand_checks number) 0 (zip slice row)) ≡ Some fault
      → first_fault (row_checks products number (bidder, row)) ≡ Some fault
  unfolding row_checks
  row_failed fault h = failed (in_turn (demand_checks number) 0 (zip products row)) _ fault (demands_first h)

  -- if its demands pass and its activity is too high, that is the row's
  pub row_above : (units : ℕ) → first_fault (in_turn (demand_checks number) 0 (zip slice row)) ≡ None
      → units ≡ activity slice row → bidder.eligibility < units
      → first_fault (row_checks products number (bidder, row)) ≡ Some (Activity number)
  unfolding row_checks
  row_above units h taken above =
      let all : units ≡ activity products row = taken ∙ ap (λ (list : List Product). activity list row) same in
      passed (in_turn (demand_checks number) 0 (zip products row)) _ (demands_first h) ∙ ap (λ (b : Bool). first_fault
      ((Activity number, b) ∷ [])) (lt-leb (activity products row) bidder.eligibility (omega (arith, all, above)))

  -- otherwise the row has no fault
  pub row_passed : (units : ℕ) → first_fault (in_turn (demand_checks number) 0 (zip slice row)) ≡ None → units
      ≡ activity slice row → units ≤ bidder.eligibility → first_fault (row_checks products number (bidder, row)) ≡ None
  unfolding row_checks
  row_passed units h taken within =
      let all : units ≡ activity products row = taken ∙ ap (λ (list : List Product). activity list row) same in
      passed (in_turn (demand_checks number) 0 (zip products row)) _ (demands_first h) ∙ ap (λ (b : Bool). first_fault
      ((Activity number, b) ∷ [])) (le-leb (activity products row) bidder.eligibility (omega (arith, all, within)))

-- ---- the whole document

same_of_test : (a b : ℕ) → (a == b) ≡ true → a ≡ b
same_of_test a b h = grind (arith, nat_tests)

-- rows whose number and lengths fit the set-up are a grid
pub grid_of_counts : (setup : SetupFields) (demands : List (List ℕ)) → has_counts setup demands ≡ true
    → IsGrid (length setup.bidders) (length setup.products) demands
grid_of_counts setup demands h =
    let both = and_parts (length demands == length setup.bidders)
    (list_all (λ row. length row == length setup.products) demands) h in
    let each : AllPass (λ row. length row == length setup.products) demands = AllPass-from_list_all
    (λ row. length row == length setup.products) demands both.1 in
    (same_of_test _ _ both.0, λ k d lt. same_of_test _ _ (each k d lt))

-- a document with known parts and set-up is decided by the checks after the set-up
pub opening_at : (value : Data) (parts : OpeningParts) (setup : SetupFields) → opening_parts value ≡ Some parts
    → setup_of parts.setup ≡ Ok setup → opening_of value ≡ opening_with setup parts.demands parts.increment
unfolding opening_of
opening_at value parts setup read nested = rw (read, nested) refl

-- a document of another shape has the fault `Shape`
pub opening_shape : (value : Data) → opening_parts value ≡ None → opening_of value ≡ Err Shape
unfolding opening_of
opening_shape value none = rw none refl

module _ (setup : SetupFields) (demands : List (List ℕ)) (increment : ℕ) where
  -- rows that do not fit the set-up have the fault `Shape`
  pub counts_refused : has_counts setup demands ≡ false → opening_with setup demands increment ≡ Err Shape
  unfolding opening_checks
  counts_refused counts = rw counts refl

  -- if rows fit, the first fault of a bidder is the document's
  pub rows_refused : (fault : OpeningFault) → has_counts setup demands ≡ true
      → first_fault (in_turn (row_checks setup.products) 0 (zip setup.bidders demands)) ≡ Some fault
      → opening_with setup demands increment ≡ Err fault
  unfolding opening_checks
  rows_refused fault counts rows =
      rw (counts, failed (in_turn (row_checks setup.products) 0 (zip setup.bidders demands)) _ fault rows) refl

  -- if no bidder has a fault, an increment outside its limits is the document's
  pub increment_refused : has_counts setup demands ≡ true → first_fault (in_turn (row_checks setup.products) 0
      (zip setup.bidders demands)) ≡ None → is_within least_increment most_increment increment ≡ false
      → opening_with setup demands increment ≡ Err Increment
  unfolding opening_checks
  increment_refused counts rows outside =
      rw (counts, passed (in_turn (row_checks setup.products) 0 (zip setup.bidders demands)) _ rows, outside) refl

  -- if every check passes, the document means the opening
  pub opened : (grid : List (List ℕ)) → grid ≡ demands → has_counts setup demands ≡ true
      → first_fault (in_turn (row_checks setup.products) 0 (zip setup.bidders demands)) ≡ None
      → is_within least_increment most_increment increment ≡ true
      → opening_with setup demands increment ≡ Ok (record { setup = setup; grid = grid; increment = increment })
  unfolding opening_checks
  opened grid same counts rows within =
      rw (counts, passed (in_turn (row_checks setup.products) 0 (zip setup.bidders demands)) _ rows, within, same) refl
