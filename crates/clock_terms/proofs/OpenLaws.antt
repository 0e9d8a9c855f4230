-- Laws of open grids: the lists of cells that replace the rows, and the totals after a change.
use Rattle.std.proofs.Common.{◌≡◌, ℕ, ◌+◌, ◌*◌, ◌<◌, ◌≤◌, ◌∙◌, List, [], ◌∷◌, ◌++◌, length, take, ap, sym, subst, refl}
use Rattle.std.proofs.Common.{⊎_elim, arith}
use Rattle.std.proofs.lemmas.List.{ext_get_or, take-take, take-append-le}
use Rattle.clock_terms.specs.declared.change.Kind.{Kind}
use Rattle.clock_terms.specs.declared.change.Kind.TheVariants.{Increase, Reduction}
use Rattle.clock_terms.specs.declared.held_list.PositiveDemand.{PositiveDemand}
use Rattle.clock_terms.specs.Demands.{row_of, total_of, demand_at, changed_demand}
use Rattle.clock_terms.specs.Limits.{most_bidders, most_supply}
use Rattle.clock_terms.specs.inside.Demands.{AreCells, AreFirstCells, IsGridWithTotals, rows_shown}
use Rattle.clock_terms.proofs.DemandLaws.{demand-le-total, total_small}

-- the first cells of an open grid are lists for its rows, and show them
pub first_cells : (rows cells : List (List ℕ)) → AreFirstCells rows cells → AreCells rows cells
first_cells rows cells are = ⊎_elim (λ (none : cells ≡ []). subst (λ list. AreCells rows list) (sym none) (record {
  each = λ some. absurd (omega (arith, some));
  widths = λ bidder within. absurd (omega (arith, within));
})) (λ (same : cells ≡ rows). subst (λ list. AreCells rows list) (sym same) (record {
  each = λ some. refl;
  widths = λ bidder within. refl;
})) are

shown_same : (rows : List (List ℕ)) → rows_shown rows rows ≡ rows
shown_same [] = refl
shown_same (first ∷ rows) = refl

pub first_shown : (rows cells : List (List ℕ)) → AreFirstCells rows cells → rows_shown rows cells ≡ rows
first_shown rows cells are =
    ⊎_elim (λ (none : cells ≡ []). ap (rows_shown rows) none)
    (λ (same : cells ≡ rows). ap (rows_shown rows) same ∙ shown_same rows) are

-- rows are those of an open grid, if the ones with cells have their demands, and the others are as before
pub shown_written : (rows cells after : List (List ℕ)) → AreCells rows cells → length after ≡ length rows
    → ((k : ℕ) → k < length cells → row_of after k ≡ row_of cells k)
    → ((k : ℕ) → length cells ≤ k → row_of after k ≡ row_of rows k) → after ≡ rows_shown rows cells
shown_written rows [] after are each written rest =
    ext_get_or [] after rows each (λ k below. rest k (omega arith))
shown_written rows (first ∷ cells) after are each written rest =
    let same : length (first ∷ cells) ≡ length rows = are.each (omega arith) in
    ext_get_or [] after (first ∷ cells) (each ∙ sym same) (λ k below. written k (omega (arith, below, each, same)))

-- a total after a change of one demand
pub changed_total : (kind : Kind) (grid : List (List ℕ)) (totals : List ℕ) (bidder product amount : ℕ)
    → IsGridWithTotals grid totals → bidder < length grid
    → (kind ≡ Reduction → amount ≤ demand_at grid bidder product)
    → changed_demand kind (total_of grid product) amount + demand_at grid bidder product
    ≡ total_of grid product + changed_demand kind (demand_at grid bidder product) amount
changed_total Increase grid totals bidder product amount kept within held = omega arith
changed_total Reduction grid totals bidder product amount kept within held =
    omega (arith, held refl, demand-le-total grid bidder product within)

pub small_total : (kind : Kind) (grid : List (List ℕ)) (totals : List ℕ) (bidder product amount : ℕ)
    → IsGridWithTotals grid totals → changed_demand kind (demand_at grid bidder product) amount ≤ most_supply
    → changed_demand kind (total_of grid product) amount ≤ (most_bidders + 1) * most_supply
small_total Increase grid totals bidder product amount kept small =
    omega (arith, small, total_small grid product kept.small.small, kept.small.bidder_count)
small_total Reduction grid totals bidder product amount kept small =
    omega (arith, total_small grid product kept.small.small, kept.small.bidder_count)

-- the first entries that were written to the start of a list, which was then shortened
pub written_back : (n m : ℕ) (written rest : List PositiveDemand) → n ≤ m → n ≤ length written
    → take n (take m (written ++ rest)) ≡ take n written
written_back n m written rest few within =
    take-take n m (written ++ rest) few ∙ take-append-le n written rest within
