-- A list with capacity that was allocated beforehand.
use Rattle.std.specs.Prelude.{ℕ, List}

-- the items, and the number of items that can be added
pub record BoundedList (T : Type 0) : Type 0 where
  pub items : List T
  pub room : ℕ
