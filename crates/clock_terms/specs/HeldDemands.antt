-- A row of demands as the code stores it: a list of entries, each a product and a positive demand
-- for it.
--     demand_for held product      the demand for a product
--     demands_of count held      the demands for products 0 to count - 1
--     next_of count left      the product that an iterator over the entries visits next
use Rattle.std.specs.Prelude.{ℕ, ◌==◌, List, [], ◌∷◌, map, if◌then◌else◌}
use Rattle.std.specs.List.{range_with_len}
use Rattle.clock_terms.specs.declared.held_list.PositiveDemand.{PositiveDemand}

-- the demand in the product's entry, or 0 if it has none
unfoldable pub demand_for : List PositiveDemand → ℕ → ℕ
demand_for [] product = 0
demand_for (one ∷ held) product =
    if one.product == product then one.demand else demand_for held product

-- the demand for each of the first `count` products
abbrev pub demands_of : ℕ → List PositiveDemand → List ℕ
demands_of count held = map (demand_for held) (range_with_len 0 count)

-- the product of the first entry that is left to visit, or the number of products if none is left
abbrev pub next_of : ℕ → List PositiveDemand → ℕ
next_of count [] = count
next_of count (one ∷ left) = one.product
