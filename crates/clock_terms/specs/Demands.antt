-- Grids of demands: a row for each bidder, and in it a number of blocks for each product.
--     row_of grid bidder, demand_at grid bidder product      a row, and one demand
--     total_of grid product      the aggregate demand for a product
--     with_demand grid bidder product demand      the grid with one demand replaced
--     changed_demand kind demand amount      a demand increased or reduced by an amount of blocks
--     no_demands bidders products      a grid in which every demand is 0
--     IsGrid bidders products grid      the grid has these numbers of rows and columns
use Rattle.std.specs.Prelude.{◌≡◌, ℕ, ◌+◌, ◌-◌, List, [], length, replicate, slice_index}
use Rattle.std.specs.Prelude.{slice_index_or, slice_set, sum_by, All}
use Rattle.clock_terms.specs.declared.change.Kind.{Kind}
use Rattle.clock_terms.specs.declared.change.Kind.TheVariants.{Increase, Reduction}

-- a bidder's demands, one for each product
abbrev pub row_of : List (List ℕ) → ℕ → List ℕ
row_of grid bidder = slice_index_or grid bidder []

abbrev pub demand_at : List (List ℕ) → ℕ → ℕ → ℕ
demand_at grid bidder product = slice_index (row_of grid bidder) product

-- aggregate demand: all bidders' demands for a product, added up
abbrev pub total_of : List (List ℕ) → ℕ → ℕ
total_of grid product = sum_by (λ row. slice_index row product) grid

abbrev pub with_demand : List (List ℕ) → ℕ → ℕ → ℕ → List (List ℕ)
with_demand grid bidder product demand =
    slice_set grid bidder (slice_set (row_of grid bidder) product demand)

-- a demand increased or reduced by an amount; a reduction by more than the demand gives 0
abbrev pub changed_demand : Kind → ℕ → ℕ → ℕ
changed_demand Increase demand amount = demand + amount
changed_demand Reduction demand amount = demand - amount

-- a grid in which every demand is 0
abbrev pub no_demands : ℕ → ℕ → List (List ℕ)
no_demands bidders products = replicate bidders (replicate products 0)

-- a grid: a row for each bidder, and in each row a number for each product
abbrev pub IsGrid : ℕ → ℕ → List (List ℕ) → Type 0
IsGrid bidders products grid = (length grid ≡ bidders) × All (λ row. length row ≡ products) grid
