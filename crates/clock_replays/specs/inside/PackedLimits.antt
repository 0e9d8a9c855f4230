-- Packed limits, and the index at which the row of a product may be.
--     AreRising from products count      products rise, from one on, and all are below a count
--     packed_limits rows, ArePacked rows      the limits of packed rows, and that the
--         rows are in order
--     IsPlaceOf products product place      all products before this index are lower
use Rattle.std.specs.Prelude.{◌≡◌, ℕ, ◌+◌, ◌<◌, ◌≤◌, List, [], ◌∷◌, length}
use Rattle.std.specs.List.{AllWithin}
use Rattle.clock_replays.specs.declared.limit_lists.LimitRows.{LimitRows}
use Rattle.clock_replays.specs.EndedRows.{rows_from}
use Rattle.clock_replays.specs.PackedLimits.{limits_of}
use Rattle.clock_replays.specs.inside.EndedRows.{AreEnds}

-- the products rise, are not below `from`, and are below a count
unfoldable pub AreRising : ℕ → List ℕ → ℕ → Type 0
AreRising from [] count = from ≤ count
AreRising from (product ∷ products) count =
    (from ≤ product) × AreRising (product + 1) products count

-- the limits of packed rows
abbrev pub packed_limits : LimitRows → List (List ℕ)
packed_limits rows =
    limits_of rows.count rows.products.items (rows_from 0 rows.ends.items rows.prices.items)

-- the rows end in order, and each product with limits has a row, by rising product
abbrev pub ArePacked : LimitRows → Type 0
ArePacked rows =
    AreEnds 0 rows.ends.items (length rows.prices.items)
    × (length rows.products.items ≡ length rows.ends.items)
    × AreRising 0 rows.products.items rows.count

-- all products before this index are lower than `product`
abbrev pub IsPlaceOf : List ℕ → ℕ → ℕ → Type 0
IsPlaceOf products product place =
    (place ≤ length products) × AllWithin (λ other. other < product) products 0 place
