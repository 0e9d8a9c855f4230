-- The search finds the row of the product, if it has one, and the ends give its prices.
use Rattle.std.proofs.Common.{◌≡◌, ◌-◌, ◌<◌, ◌≤◌, List, ℕ, ◌∷◌, length, get_or, take, drop, sym, ap, ◌∙◌, arith}
use Rattle.std.proofs.Common.{rules}
use Rattle.clock_terms.specs.Demands.{row_of}
use Rattle.clock_replays.specs.EndedRows.{rows_from}
use Rattle.clock_replays.specs.inside.EndedRows.{AreEnds}
use Rattle.clock_replays.proofs.EndedRowLaws.{length-rows, row_at, end_within}
use Rattle.clock_replays.proofs.PackedLimitLaws.{found, listed, missing}
use Rattle.clock_replays.proofs.limit_lists.LimitLists.list.Goals.{then-place-products-via-then-place-products}
use Rattle.clock_replays.proofs.limit_lists.LimitLists.list.Goals.{
  then-place-products-via-else-place-products+then-products-place,
}
use Rattle.clock_replays.proofs.limit_lists.LimitLists.list.Goals.{then-place-eq0, else-place-eq0}
use Rattle.clock_replays.proofs.limit_lists.LimitLists.list.Goals as goal

-- the ends of a row, read from slices
bounds : {products_read products ends_read ends prices_read prices : List ℕ} (place : ℕ) → products_read ≡ products
    → ends_read ≡ ends → prices_read ≡ prices → place ≤ length products → (place ≡ length products_read → ⊥)
    → length products ≡ length ends → AreEnds 0 ends (length prices)
    → (get_or (0 ∷ ends_read) place 0 ≤ get_or ends_read place 0) × (get_or ends_read place 0 ≤ length prices_read)
bounds {products_read} {products} {ends_read} {ends} {prices_read}
    {prices} place same_products same_ends same_prices most other count are =
    let within : place < length ends = omega (arith, ap length same_products, most, other, count) in
    let reported = end_within 0 ends (length prices) place are within in
    let first = ap (λ (list : List ℕ). get_or (0 ∷ list) place 0) same_ends in
    let last = ap (λ (list : List ℕ). get_or list place 0) same_ends in
    (omega (arith, reported.0, first, last), omega (arith, reported.1, last, ap length same_prices))

pub returns-then-place-products : goal.returns-then-place-products
returns-then-place-products c =
    let rows = c.self.inside.rows in
    let lists = rows_from 0 rows.ends.items rows.prices.items in
    let product = c.args.product in
    let place = c.place_of-place.result in
    let same = c.as_slice-products.ensures.value in
    let start = c.place_of-place.ensures.place in
    let next : place < length rows.products.items → product < get_or rows.products.items place 0 =
    λ inside. elim c.then-place-products.branch [
      | then-place-products-via-then-place-products w ↦
          absurd (omega (arith, w.if-place-products.true, inside, ap (λ (list : List ℕ). length list) same))
      | then-place-products-via-else-place-products+then-products-place w ↦
          omega (
            arith,
            w.if-products-place.true,
            ap (λ (list : List ℕ). get_or list place 0) same,
            c.place_of-place.ensures.first inside,
          )
    ] in
    sym (missing 0 rows.products.items lists rows.count product place c.self.invariant.2 start.1 next)
    ∙ listed rows c.args.self.now product c.self.view_is c.requires

pub slice_bounds-result-count : goal.slice_bounds-result-count
slice_bounds-result-count c =
    let place = c.place_of-place.result in
    let begins : c.if-place-eq0.start ≡ get_or (0 ∷ c.as_slice-ends.result.now) place 0 = elim c.if-place-eq0.branch [
      | then-place-eq0 w ↦ search rules
      | else-place-eq0 w ↦ search rules
    ] in
    let reported = bounds place c.as_slice-products.ensures.value c.as_slice-ends.ensures.value c.as_slice.ensures.value
    c.place_of-place.ensures.place.0
    c.if-place-products.false c.self.invariant.1 c.self.invariant.0 in
    omega (arith, reported.0, begins)

pub slice_bounds-result-start : goal.slice_bounds-result-start
slice_bounds-result-start c =
    let place = c.place_of-place.result in
    let begins : c.if-place-eq0.start ≡ get_or (0 ∷ c.as_slice-ends.result.now) place 0 = elim c.if-place-eq0.branch [
      | then-place-eq0 w ↦ search rules
      | else-place-eq0 w ↦ search rules
    ] in
    let reported = bounds place c.as_slice-products.ensures.value c.as_slice-ends.ensures.value c.as_slice.ensures.value
    c.place_of-place.ensures.place.0
    c.if-place-products.false c.self.invariant.1 c.self.invariant.0 in
    omega (arith, reported.0, begins)

pub slice_bounds-result-end-2 : goal.slice_bounds-result-end-2
slice_bounds-result-end-2 c =
    let place = c.place_of-place.result in
    let begins : c.if-place-eq0.start ≡ get_or (0 ∷ c.as_slice-ends.result.now) place 0 = elim c.if-place-eq0.branch [
      | then-place-eq0 w ↦ search rules
      | else-place-eq0 w ↦ search rules
    ] in
    let reported = bounds place c.as_slice-products.ensures.value c.as_slice-ends.ensures.value c.as_slice.ensures.value
    c.place_of-place.ensures.place.0
    c.if-place-products.false c.self.invariant.1 c.self.invariant.0 in
    omega (arith, reported.1)

pub returns : goal.returns
returns c =
    let rows = c.self.inside.rows in
    let ends = rows.ends.items in
    let prices = rows.prices.items in
    let product = c.args.product in
    let place = c.place_of-place.result in
    let same = c.as_slice-products.ensures.value in
    let start = c.place_of-place.ensures.place in
    let inside : place < length rows.products.items =
    omega (arith, start.0, c.if-place-products.false, ap (λ (list : List ℕ). length list) same) in
    let here : get_or rows.products.items place 0 ≡ product =
    ap (λ (list : List ℕ). get_or list place 0) (sym same) ∙ (omega (arith, c.if-products-place.false)) in
    let begins : c.if-place-eq0.start ≡ get_or (0 ∷ c.as_slice-ends.result.now) place 0 = elim c.if-place-eq0.branch [
      | then-place-eq0 w ↦ search rules
      | else-place-eq0 w ↦ search rules
    ] in
    let within : place < length c.as_slice-ends.result.now =
    omega (arith, inside, c.self.invariant.1, ap length c.as_slice-ends.ensures.value) in
    ap (λ (from : ℕ). take (get_or c.as_slice-ends.result.now place 0 - from) (drop from c.as_slice.result.now)) begins
    ∙ sym (row_at 0 c.as_slice-ends.result.now c.as_slice.result.now place within)
    ∙ ap (λ (all : List ℕ). row_of (rows_from 0 all c.as_slice.result.now) place) c.as_slice-ends.ensures.value
    ∙ ap (λ (all : List ℕ). row_of (rows_from 0 ends all) place) c.as_slice.ensures.value
    ∙ sym (found rows.products.items (rows_from 0 ends prices) product place
    (c.self.invariant.1 ∙ sym (length-rows 0 ends prices)) start.1 inside here)
    ∙ listed rows c.args.self.now product c.self.view_is c.requires
