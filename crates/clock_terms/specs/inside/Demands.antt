-- The invariants of the types `Grid` and `OpenGrid`.
--     IsSmallGrid products grid      rows of equal length, within the limits of a set-up
--     IsGridWithTotals grid totals      such a grid, with the aggregate demand for each product
--     rows_shown rows cells      the rows of an open grid: the lists of cells, if there are any
--     AreCells rows cells      a list of cells for each row, of its length, or none
--     AreFirstCells rows cells      those of an open grid in which nothing has changed
use Rattle.std.specs.Prelude.{◌≡◌, ℕ, ◌≤◌, ◌<◌, ◌⊎◌, List, [], ◌∷◌, length, slice_index, All}
use Rattle.clock_terms.specs.Limits.{most_products, most_bidders, most_supply}
use Rattle.clock_terms.specs.Demands.{row_of, total_of}

-- no more rows and columns than a set-up allows, and no demand above a thousand
pub record IsSmallGrid (products : ℕ) (grid : List (List ℕ)) : Type 0 where
  pub product_count : products ≤ most_products
  pub bidder_count : length grid ≤ most_bidders
  pub same_length : All (λ row. length row ≡ products) grid
  pub small : All (λ row. All (λ demand. demand ≤ most_supply) row) grid

-- a grid of at least one row, with the aggregate demand for each product
pub record IsGridWithTotals (grid : List (List ℕ)) (totals : List ℕ) : Type 0 where
  pub small : IsSmallGrid (length totals) grid
  pub has_bidder : 1 ≤ length grid
  pub kept : (product : ℕ) → product < length totals
      → slice_index totals product ≡ total_of grid product

-- the rows of an open grid: the lists of cells, if there are any
abbrev pub rows_shown : List (List ℕ) → List (List ℕ) → List (List ℕ)
rows_shown rows [] = rows
rows_shown rows (first ∷ cells) = first ∷ cells

-- a list of cells for each row, of the row's length, or none
pub record AreCells (rows cells : List (List ℕ)) : Type 0 where
  pub each : 0 < length cells → length cells ≡ length rows
  pub widths : (bidder : ℕ) → bidder < length cells
      → length (row_of cells bidder) ≡ length (row_of rows bidder)

-- no lists of cells, or the demands of the rows
abbrev pub AreFirstCells : List (List ℕ) → List (List ℕ) → Type 0
AreFirstCells rows cells = (cells ≡ []) ⊎ (cells ≡ rows)
