-- How the limits of a sincere script are packed: only products with limits have a row.
--     limits_for products rows product      the limits for a product
--     limits_of count products rows      the limits for each of `count` products
use Rattle.std.specs.Prelude.{ℕ, ◌==◌, List, [], ◌∷◌, map, if◌then◌else◌}
use Rattle.std.specs.List.{range_with_len}

-- the row of a product, or no limits without one
unfoldable pub limits_for : List ℕ → List (List ℕ) → ℕ → List ℕ
limits_for [] rows product = []
limits_for (limited ∷ products) [] product = []
limits_for (limited ∷ products) (row ∷ rows) product =
    if limited == product then row else limits_for products rows product

-- the limits for each of `count` products
abbrev pub limits_of : ℕ → List ℕ → List (List ℕ) → List (List ℕ)
limits_of count products rows = map (limits_for products rows) (range_with_len 0 count)
