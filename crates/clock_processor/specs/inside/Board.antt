-- The invariant of a board.
--     IsBoardWithUnused products eligibilities grid unused      a board, with the unused
--         eligibility that it stores for each bidder, so that a test adds nothing up
use Rattle.std.specs.Prelude.{◌≡◌, ℕ, ◌+◌, ◌^◌, ◌<◌, List, length, EachIndex, slice_index}
use Rattle.clock_terms.specs.declared.setup.Product.{Product}
use Rattle.clock_terms.specs.Demands.{row_of}
use Rattle.clock_terms.specs.Eligibility.{activity}
use Rattle.clock_processor.specs.Board.{IsBoard}

-- For each bidder, the stored number plus its activity is its eligibility, which fits in 64 bits.
pub record KeepsUnused (products : List Product) (eligibilities : List ℕ) (grid : List (List ℕ))
    (unused : List ℕ) : Type 0 where
  pub fits : EachIndex eligibilities (λ bidder. slice_index eligibilities bidder < 2 ^ 64)
  pub bidders : length unused ≡ length eligibilities
  pub sums : EachIndex eligibilities (λ bidder. slice_index unused bidder
      + activity products (row_of grid bidder) ≡ slice_index eligibilities bidder)

-- a board, and the unused eligibility that it stores
pub record IsBoardWithUnused (products : List Product) (eligibilities : List ℕ)
    (grid : List (List ℕ)) (unused : List ℕ) : Type 0 where
  pub is_board : IsBoard products eligibilities grid
  pub keeps_unused : KeepsUnused products eligibilities grid unused
