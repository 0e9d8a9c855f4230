-- Increments: by how many percent a closing raises prices, one for all products or one for each. In
-- the FCC's procedures for Auction 105, increments may differ by product; their range is our own
-- limit.
--     increment_at increments product      the increment of one product
--     HasIncrement increments product      there is an increment for the product
--     IsIncrement percent, is_increment percent      1 to 50 percent; the test of it
--     AreIncrements count increments      there is one for each of `count` products, each of 1 to
--         50 percent
--     are_increments count increments      the test of it
use Rattle.std.specs.Prelude.{◌≡◌, ℕ, ◌<◌, ◌&&◌, ◌==◌, Bool, length, slice_index, All, ⊤}
use Rattle.std.specs.List.{list_all}
use Rattle.clock_terms.specs.declared.increments.Increments.{Increments}
use Rattle.clock_terms.specs.declared.increments.Increments.TheVariants.{Single, PerProduct}
use Rattle.clock_terms.specs.Limits.{IsWithin, is_within, least_increment, most_increment}

-- the one increment for all products, or the product's own
abbrev pub increment_at : Increments → ℕ → ℕ
increment_at (Single increment) product = increment
increment_at (PerProduct increments) product = slice_index increments product

-- a single increment is for every product, a list for the products that it is long enough for
abbrev pub HasIncrement : Increments → ℕ → Type 0
HasIncrement (Single increment) product = ⊤
HasIncrement (PerProduct increments) product = product < length increments

-- 1 to 50 percent
abbrev pub IsIncrement : ℕ → Type 0
IsIncrement = IsWithin least_increment most_increment

abbrev pub is_increment : ℕ → Bool
is_increment = is_within least_increment most_increment

-- Each increment is of 1 to 50 percent, and a list has exactly one for each product.
abbrev pub AreIncrements : ℕ → Increments → Type 0
AreIncrements count (Single increment) = IsIncrement increment
AreIncrements count (PerProduct increments) =
    (length increments ≡ count) × All IsIncrement increments

abbrev pub are_increments : ℕ → Increments → Bool
are_increments count (Single increment) = is_increment increment
are_increments count (PerProduct increments) =
    (length increments == count) && list_all is_increment increments
