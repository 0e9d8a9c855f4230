-- Reading demands as 16-bit numbers changes no result: a demand that is changed is above its cap before and after, and
-- so gives the same first fault.
use Rattle.std.proofs.Common.{◌≡◌, ℕ, ◌+◌, ◌<◌, ◌≤◌, ◌⊎◌, inl, inr, ⊎_elim, Bool, true, false, All, List, [], ◌∷◌, ◌++◌}
use Rattle.std.proofs.Common.{length, map}
use Rattle.std.proofs.Common.{zip, Option, Some, None, Result, Ok, Err, IfOk, refl, sym, ap, ◌∙◌, subst, arith}
use Rattle.std.specs.Prelude.{⊤, codes, option_and_then, option_map}
use Rattle.std.specs.List.{AllByRecursion}
use Rattle.std.proofs.lemmas.Bool.{cases_lt, lt-leb}
use Rattle.std.proofs.lemmas.List.{length-map}
use Rattle.std.proofs.lemmas.List.Elements.{recursion_from_All}
use Rattle.std.proofs.lemmas.List.Folds.{list_all-map}
use Rattle.serde_json.specs.Data.{Data}
use Rattle.serde_json.specs.Find.{get}
use Rattle.clock_json.specs.Tree.{number_at, has_members, items_at, each, numbers_from}
use Rattle.clock_json.specs.Rows.{shortened}
use Rattle.clock_terms.specs.declared.setup.Product.{Product}
use Rattle.clock_terms.specs.declared.setup.Bidder.{Bidder}
use Rattle.clock_setup.specs.declared.opening.OpeningFault.{OpeningFault}
use Rattle.clock_setup.specs.declared.opening.OpeningFault.TheVariants.{Demand}
use Rattle.clock_terms.specs.Faults.{first_fault, in_turn, ◌>>=◌}
use Rattle.clock_terms.specs.Limits.{SetupFields, IsProduct}
use Rattle.clock_setup.specs.SetupDocument.{setup_of}
use Rattle.clock_setup.specs.OpeningShape.{opening_parts}
use Rattle.clock_setup.specs.OpeningDocument.{has_counts, demand_checks, row_checks, opening_with, in_opening}
use Rattle.clock_setup.specs.OpeningDocument.{opening_of}
use Rattle.clock_setup.specs.inside.OpeningData.{short_rows_in}
use Rattle.clock_terms.proofs.FaultLaws.{failed}
use Rattle.clock_setup.proofs.OpeningLaws.{one_demand, grid_of_counts, counts_refused, rows_refused}

-- two lists of checks have one first fault
abbrev BothFail : {F : Type 0} → List (F × Bool) → List (F × Bool) → Type 0
BothFail {F} first second = (fault : F) × (first_fault first ≡ Some fault) × (first_fault second ≡ Some fault)

-- so they have after the same other checks
behind : {F : Type 0} (checks first second : List (F × Bool)) → BothFail first second
    → BothFail (checks ++ first) (checks ++ second)
behind [] first second both = both
behind ((fault, true) ∷ checks) first second both = behind checks first second both
behind ((fault, false) ∷ checks) first second both = (fault, refl, refl)

-- and before any other checks
before : {F : Type 0} (first second more others : List (F × Bool)) → BothFail first second
    → BothFail (first ++ more) (second ++ others)
before first second more others both = (both.0, failed first more both.0 both.1, failed second others both.0 both.2)

module _ {K X F : Type 0} (checks : ℕ → K × X → List (F × Bool)) (change : X → X) (P : K → Type 0)
    (Q : X → Type 0) where
  -- if an item changes only when it fails before and after the change, so does a list of items
  each_kept : ((i : ℕ) (key : K) (item : X) → P key → Q item → (change item ≡ item)
      ⊎ BothFail (checks i (key, change item)) (checks i (key, item))) → (i : ℕ) (keys : List K) (items : List X)
      → length items ≡ length keys → AllByRecursion P keys → AllByRecursion Q items → (map change items ≡ items)
      ⊎ BothFail (in_turn checks i (zip keys (map change items))) (in_turn checks i (zip keys items))
  each_kept one i [] [] same keys_are items_are = inl refl
  each_kept one i [] (item ∷ items) same keys_are items_are = absurd (omega (arith, same))
  each_kept one i (key ∷ keys) [] same keys_are items_are = absurd (omega (arith, same))
  each_kept one i (key ∷ keys) (item ∷ items) same keys_are items_are = ⊎_elim (λ (kept : change item ≡ item). ⊎_elim
      (λ (rest : map change items ≡ items). inl (ap (λ x. x ∷ map change items) kept ∙ ap (λ xs. item ∷ xs) rest))
      (λ (rest : BothFail (in_turn checks (i + 1) (zip keys (map change items)))
      (in_turn checks (i + 1) (zip keys items))). inr (subst (λ x. BothFail (checks i (key, x) ++ in_turn checks (i + 1)
      (zip keys (map change items))) (checks i (key, item) ++ in_turn checks (i + 1) (zip keys items))) (sym kept)
      (behind (checks i (key, item)) _ _ rest))) (each_kept one (i + 1) keys items (omega (arith, same)) keys_are.1
      items_are.1)) (λ (fails : BothFail (checks i (key, change item)) (checks i (key, item))). inr
      (before (checks i (key, change item)) (checks i (key, item)) _ _ fails)) (one i key item keys_are.0 items_are.0)

-- a demand that changes is above its cap before and after
demand_kept : (number i : ℕ) (product : Product) (demand : ℕ) → IsProduct product → ⊤ → (shortened demand ≡ demand)
    ⊎ BothFail (demand_checks number i (product, shortened demand)) (demand_checks number i (product, demand))
demand_kept number i product demand limits any =
    ⊎_elim
    (λ (above : product.cap < demand).
    inr (
      Demand number i,
      one_demand number i product (shortened demand) false
          (lt-leb (shortened demand) product.cap (omega (arith, above, limits.cap.1, limits.supply.1))),
      one_demand number i product demand false (lt-leb demand product.cap above),
    ))
    (λ (within : demand ≤ product.cap). inl (omega (arith, within, limits.cap.1, limits.supply.1)))
    (cases_lt product.cap demand)

-- a row that changes has a fault before and after
row_kept : (products : List Product) → All IsProduct products → (number : ℕ) (bidder : Bidder) (row : List ℕ) → ⊤
    → length row ≡ length products → (map shortened row ≡ row)
    ⊎ BothFail (row_checks products number (bidder, map shortened row)) (row_checks products number (bidder, row))
unfolding row_checks
row_kept products limits number bidder row any same = ⊎_elim inl (λ fails. inr (before (in_turn (demand_checks number) 0
    (zip products (map shortened row))) (in_turn (demand_checks number) 0 (zip products row)) _ _ fails))
    (each_kept (demand_checks number) shortened IsProduct (λ _. ⊤) (demand_kept number) 0 products row same
    (recursion_from_All IsProduct products limits) (recursion_from_All (λ _. ⊤) row (λ k d lt. tt)))

-- a set-up within its limits gives the same result with demands as 16-bit numbers
module _ (setup : SetupFields) (demands : List (List ℕ)) (increment : ℕ) (limits : All IsProduct setup.products) where
  counts_same : has_counts setup (map (map shortened) demands) ≡ has_counts setup demands
  counts_same = simp (length-map, list_all-map)

  by_counts : (b : Bool) → has_counts setup demands ≡ b
      → opening_with setup (map (map shortened) demands) increment ≡ opening_with setup demands increment
  by_counts false is =
      counts_refused setup _ increment (counts_same ∙ is) ∙ sym (counts_refused setup demands increment is)
  by_counts true is =
      let grid = grid_of_counts setup demands is in
      ⊎_elim (λ (same : map (map shortened) demands ≡ demands). ap (λ rows. opening_with setup rows increment) same)
      (λ fails. rows_refused setup _ increment fails.0 (counts_same ∙ is) fails.1 ∙ sym (rows_refused setup demands
      increment fails.0 is fails.2)) (each_kept (row_checks setup.products) (map shortened) (λ _. ⊤) (λ row. length row
      ≡ length setup.products) (row_kept setup.products limits) 0 setup.bidders demands grid.0 (recursion_from_All (λ _.
      ⊤) setup.bidders (λ k d lt. tt)) (recursion_from_All (λ row. length row ≡ length setup.products) demands grid.1))

  opening_shortened : opening_with setup (map (map shortened) demands) increment ≡ opening_with setup demands increment
  opening_shortened = by_counts (has_counts setup demands) refl

-- the rows before they were read as 16-bit numbers
full_rows : (rows : Option (List (List ℕ))) (short : List (List ℕ)) → option_map (map (map shortened)) rows ≡ Some short
    → (full : List (List ℕ)) × (rows ≡ Some full) × (map (map shortened) full ≡ short)
full_rows None short is = absurd cc
full_rows (Some full) short is = (full, refl, cc)

-- after a set-up within its limits, both forms of the rows give the same result
nested_shortened : (nested : Result SetupFields OpeningFault) (full short : List (List ℕ)) (increment : ℕ)
    → map (map shortened) full ≡ short → IfOk nested (λ setup. All IsProduct setup.products)
    → (nested >>= λ setup. opening_with setup full increment) ≡ (nested >>= λ setup. opening_with setup short increment)
nested_shortened (Err fault) full short increment is limits = refl
nested_shortened (Ok setup) full short increment is limits =
    sym (opening_shortened setup full increment limits) ∙ ap (λ rows. opening_with setup rows increment) is

-- what a document of the right shape means, given what its set-up means
pub opening_means : (value setup : Data) (demands : List (List ℕ)) (increment : ℕ)
    (nested : Result SetupFields OpeningFault) → get (codes "setup") value ≡ Some setup → short_rows_in value
    ≡ Some demands → number_at (codes "increment") value ≡ Some increment → has_members 3 value ≡ true
    → in_opening (setup_of setup) ≡ nested → IfOk nested (λ setup. All IsProduct setup.products)
    → opening_of value ≡ (nested >>= λ setup. opening_with setup demands increment)
unfolding opening_of opening_parts
opening_means value setup demands increment nested there rows number whole is limits =
    let full = full_rows (option_and_then (each numbers_from) (items_at (codes "demands") value)) demands rows in
    rw (there, full.1, number, whole, is) (nested_shortened nested full.0 demands increment full.2 limits)
