-- Laws of grids and of aggregate demand: one changed demand changes only its product's total, by the difference.
use Rattle.std.proofs.Common.{◌≡◌, ℕ, ◌+◌, ◌-◌, ◌*◌, ◌<◌, ◌≤◌, ◌≢◌, List, [], ◌∷◌, length, get_or, set, replicate}
use Rattle.std.proofs.Common.{zip, zero, suc, All, refl, sym, ap, ◌∙◌, subst, arith, ⊎_elim}
use Rattle.std.proofs.lemmas.List.{length-set, get_or_default, get_or-set_same}
use Rattle.std.proofs.lemmas.List.{get_or-set_other, get_or_past, get_or-replicate, length-replicate}
use Rattle.std.proofs.lemmas.List.Sums.{sum_by-set, sum_by-le, sum_by-cons, get_or-le-sum_by}
use Rattle.std.proofs.lemmas.List.Elements.{All-set, All-weaker}
use Rattle.std.proofs.lemmas.Bool.{cases_lt, cases_eq}
use Rattle.std.proofs.lemmas.Grind.{common_steps}
use Rattle.clock_terms.specs.declared.setup.Product.{Product}
use Rattle.clock_terms.specs.Limits.{IsProduct, IsRow, IsSetup, SetupFields, cap_of, most_bidders, most_supply}
use Rattle.clock_terms.specs.Limits.{no_product}
use Rattle.clock_terms.specs.Eligibility.{activity}
use Rattle.clock_terms.specs.Demands.{total_of, demand_at, row_of, with_demand}
use Rattle.clock_terms.specs.inside.Demands.{IsGridWithTotals}

-- a demand is at most the largest supply
demand_small : (row : List ℕ) (p : ℕ) → All (λ demand. demand ≤ most_supply) row → get_or row p 0 ≤ most_supply
demand_small row p small = ⊎_elim (λ h. small p 0 h) (λ (h : length row ≤ p). rw (get_or_past row p 0 h) (omega arith))
    (cases_lt p (length row))

-- a total is at most a thousand blocks for each bidder
pub total_small : (grid : List (List ℕ)) (p : ℕ) → All (λ row. All (λ demand. demand ≤ most_supply) row) grid
    → total_of grid p ≤ length grid * most_supply
total_small grid p small =
    sum_by-le (λ row. get_or row p 0) most_supply grid (λ k d h. demand_small (get_or grid k d) p (small k d h))

-- a demand is at most its product's total
pub demand-le-total : (grid : List (List ℕ)) (b p : ℕ) → b < length grid → demand_at grid b p ≤ total_of grid p
demand-le-total grid b p h = get_or-le-sum_by (λ row. get_or row p 0) grid b [] h

-- replacing a demand changes its product's total by the difference
pub total-with_demand_same : (grid : List (List ℕ)) (b p v : ℕ) → b < length grid → p < length (row_of grid b)
    → total_of (with_demand grid b p v) p + demand_at grid b p ≡ total_of grid p + v
total-with_demand_same grid b p v h k = sum_by-set (λ row. get_or row p 0) grid b (set (row_of grid b) p v) [] h
    ∙ ap (λ n. total_of grid p + n) (get_or-set_same (row_of grid b) p v 0 k)

-- and changes no other product's total
pub total-with_demand_other : (grid : List (List ℕ)) (b p v q : ℕ) → b < length grid → q ≢ p
    → total_of (with_demand grid b p v) q ≡ total_of grid q
total-with_demand_other grid b p v q h differ =
    let e = sum_by-set (λ row. get_or row q 0) grid b (set (row_of grid b) p v) [] h in
    let f = get_or-set_other (row_of grid b) p q v 0 differ in
    omega (arith, e, f)

-- the invariant of `Grid` after one demand and its total changed
pub kept_with_demand : (grid : List (List ℕ)) (totals : List ℕ) (b p v n : ℕ) → IsGridWithTotals grid totals
    → b < length grid → p < length totals → v ≤ most_supply → n + demand_at grid b p ≡ total_of grid p + v
    → IsGridWithTotals (with_demand grid b p v) (set totals p n)
kept_with_demand grid totals b p v n kept h k low is =
    let row_length : length (row_of grid b) ≡ length totals = kept.small.same_length b [] h in
    let same : total_of (with_demand grid b p v) p + demand_at grid b p ≡ total_of grid p + v =
    total-with_demand_same grid b p v h (omega arith) in
    record {
      small = record {
        product_count = rw (length-set totals p n) kept.small.product_count;
        bidder_count = rw (length-set grid b (set (row_of grid b) p v)) kept.small.bidder_count;
        same_length = rw (length-set totals p n) (All-set (λ row. length row ≡ length totals) grid b
            (set (row_of grid b) p v) (length-set (row_of grid b) p v ∙ row_length) kept.small.same_length);
        small = All-set (λ row. All (λ demand. demand ≤ most_supply) row) grid b (set (row_of grid b) p v) (All-set
            (λ demand. demand ≤ most_supply) (row_of grid b) p v low (kept.small.small b [] h)) kept.small.small;
      };
      has_bidder = rw (length-set grid b (set (row_of grid b) p v)) kept.has_bidder;
      kept = λ q j.
          let within : q < length totals = omega (arith, length-set totals p n) in
          ⊎_elim (λ e. subst (λ i. get_or (set totals p n) i 0 ≡ total_of (with_demand grid b p v) i) (sym e)
          (get_or-set_same totals p n 0 k ∙ omega arith)) (λ ne. get_or-set_other totals p q n 0 ne ∙ kept.kept q within
          ∙ sym (total-with_demand_other grid b p v q h ne)) (cases_eq q p);
    }

-- a product of each row has a total
pub in_totals : (grid : List (List ℕ)) (totals : List ℕ) (p : ℕ) → IsGridWithTotals grid totals
    → All (λ row. p < length row) grid → p < length totals
in_totals grid totals p kept wide =
    let first : p < length (get_or grid 0 []) = wide 0 [] kept.has_bidder in
    let same : length (get_or grid 0 []) ≡ length totals = kept.small.same_length 0 [] kept.has_bidder in
    omega arith

-- the total that `Grid::set` computes: the old total, less the old demand, plus the new one
pub total_after : (grid : List (List ℕ)) (totals : List ℕ) (b p v : ℕ) → IsGridWithTotals grid totals → b < length grid
    → v ≤ most_supply → ((total_of grid p - demand_at grid b p) + v + demand_at grid b p ≡ total_of grid p + v)
    × ((total_of grid p - demand_at grid b p) + v ≤ (most_bidders + 1) * most_supply)
total_after grid totals b p v kept h low =
    let most : total_of grid p ≤ length grid * most_supply = total_small grid p kept.small.small in
    let part : demand_at grid b p ≤ total_of grid p = demand-le-total grid b p h in
    let few : length grid ≤ most_bidders = kept.small.bidder_count in
    (omega arith, omega arith)

-- if every demand is 0, activity is 0
pub activity_zeros : (products : List Product) (n : ℕ) → activity products (replicate n 0) ≡ 0
activity_zeros [] n = refl
activity_zeros (product ∷ products) zero = refl
activity_zeros (product ∷ products) (suc n) =
    let rest : activity products (replicate n 0) ≡ 0 = activity_zeros products n in
    sum_by-cons (λ line. line.0.units * line.1) (product, 0) (zip products (replicate n 0)) ∙ omega (arith, rest)

-- a row of demands of 0 is within every cap
pub zeros_row : (products : List Product) → IsRow products (replicate (length products) 0)
zeros_row products = record {
  each = length-replicate {A = ℕ} (length products) 0;
  capped = λ product h. rw (get_or-replicate {A = ℕ} (length products) product 0 0
      (omega (arith, length-replicate {A = ℕ} (length products) 0))) (omega arith);
}

-- a row with one demand changed is within the caps, if the new demand is
pub row_kept : (products : List Product) (row : List ℕ) (p v : ℕ) → IsRow products row → v ≤ cap_of products p
    → IsRow products (set row p v)
row_kept products row p v is most = record {
  each = grind (arith, common_steps, is.each);
  capped = λ k lt. grind (arith, common_steps, is.capped, is.each);
}

-- the invariant of `Grid`, for rows of a set-up and their totals
module _ (products : List Product) (rows : List (List ℕ)) (are : All (IsRow products) rows) where
  pub rows_each : All (λ row. length row ≡ length products) rows
  rows_each = All-weaker (IsRow products) (λ row. length row ≡ length products) (λ row is. is.each) rows are

  pub rows_small : All IsProduct products → All (λ row. All (λ demand. demand ≤ most_supply) row) rows
  rows_small limits =
      All-weaker (IsRow products) (λ row. All (λ demand. demand ≤ most_supply) row)
      (λ row is k d within.
      let good = limits k no_product (omega (arith, within, is.each)) in
      omega (arith, get_or_default row k d 0 within, is.capped k within, good.cap.1, good.supply.1)) rows are

  pub kept_of_rows : (setup : SetupFields) (totals : List ℕ) → IsSetup setup → setup.products ≡ products
      → length rows ≡ length setup.bidders → length totals ≡ length products → ((product : ℕ)
      → product < length products → get_or totals product 0 ≡ total_of rows product) → IsGridWithTotals rows totals
  kept_of_rows setup totals good same each long is =
      let count : length setup.products ≡ length products = ap length same in
      record {
        small = record {
          product_count = omega (arith, good.product_count.1, count, long);
          bidder_count = omega (arith, good.bidder_count.1, each);
          same_length = subst (λ n. All (λ row. length row ≡ n) rows) (sym long) rows_each;
          small = rows_small (subst (λ list. All IsProduct list) same good.products);
        };
        has_bidder = omega (arith, good.bidder_count.0, each);
        kept = λ product within. is product (omega (arith, within, long));
      }
