-- In contracts, an iterator over the positive demands of a row is a Walk.
--     Walk      the demands of the row, and the product from which on they are still to be visited
use Rattle.std.specs.Prelude.{ℕ, List}

-- the demands of the row, and the product from which on they are still to be visited
pub record Walk : Type 0 where
  pub demands : List ℕ
  pub from : ℕ
