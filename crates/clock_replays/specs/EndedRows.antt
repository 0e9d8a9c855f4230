-- Rows of numbers that are stored one after the other in one list, with the index at which each
-- ends.
--     rows_from start ends numbers      the rows that end at these indexes; the first begins at
--         start
use Rattle.std.specs.Prelude.{ℕ, ◌-◌, List, [], ◌∷◌, take, drop}

-- the rows that end at these indexes of a list; the first begins at start
unfoldable pub rows_from : ℕ → List ℕ → List ℕ → List (List ℕ)
rows_from start [] numbers = []
rows_from start (end ∷ ends) numbers =
    take (end - start) (drop start numbers) ∷ rows_from end ends numbers
