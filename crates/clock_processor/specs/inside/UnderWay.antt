-- The state of bid processing between the steps of a processor.
--     progress_of board admitted left      the state by definition, of a board and the blocks left
--     left_of kind bidder product changes left      the blocks left of all requests of one kind,
--         bidder, and product
--     IsUnderWay board changes left admitted      what holds between the steps
use Rattle.std.specs.Prelude.{◌≡◌, ℕ, ◌+◌, ◌*◌, ◌<◌, ◌≤◌, List, if◌then◌else◌, length, sum, sum_by}
use Rattle.std.specs.Prelude.{zip, All}
use Rattle.clock_terms.specs.declared.setup.Product.{Product}
use Rattle.clock_terms.specs.Limits.{most_supply, cap_of}
use Rattle.clock_terms.specs.Demands.{demand_at}
use Rattle.clock_terms.specs.declared.change.Change.{Change}
use Rattle.clock_terms.specs.declared.change.Kind.{Kind}
use Rattle.clock_terms.specs.declared.change.Kind.TheVariants.{Increase, Reduction}
use Rattle.clock_processor.specs.Board.{BoardFields}
use Rattle.clock_processor.specs.Settling.{Progress}
use Rattle.clock_terms.specs.Requests.{is_request_of}
use Rattle.clock_processor.specs.Requests.{IsRequest, most_requests}

-- the state by definition, from a board, the number of admitted requests, and the blocks left
abbrev pub progress_of : BoardFields → ℕ → List ℕ → Progress
progress_of board admitted left =
    record { admitted = admitted; left = left; grid = board.grid; applied = board.applied }

-- only the count of tests may differ
pub record SameButTests (old new : BoardFields) : Type 0 where
  pub products : new.products ≡ old.products
  pub eligibilities : new.eligibilities ≡ old.eligibilities
  pub grid : new.grid ≡ old.grid
  pub applied : new.applied ≡ old.applied

-- the blocks left of all requests of one kind, bidder, and product
abbrev pub left_of : Kind → ℕ → ℕ → List Change → List ℕ → ℕ
left_of kind bidder product changes left = sum_by
    (λ line. if is_request_of kind bidder product line.0 then line.1 else 0) (zip changes left)

-- with all blocks left of its requests, a bidder's demand for a product stays within 0 and the cap
pub record StaysWithinCap (products : List Product) (grid : List (List ℕ)) (changes : List Change)
    (left : List ℕ) (bidder product : ℕ) : Type 0 where
  pub raised : demand_at grid bidder product + left_of Increase bidder product changes left
      ≤ cap_of products product
  pub reduced : left_of Reduction bidder product changes left ≤ demand_at grid bidder product

-- the demand of each bidder for each product stays within 0 and the cap
abbrev pub StaysWithinCaps : List Product → List (List ℕ) → List Change → List ℕ → Type 0
StaysWithinCaps products grid changes left = (bidder product : ℕ) → bidder < length grid
    → product < length products → StaysWithinCap products grid changes left bidder product

-- With all blocks left, demands stay within 0 and the caps, and the count of applications within 64
-- bits.
pub record IsUnderWay (board : BoardFields) (changes : List Change) (left : List ℕ)
    (admitted : ℕ) : Type 0 where
  pub admitted_within : admitted ≤ length changes
  pub lengths : length left ≡ length changes
  pub requests : All (IsRequest (length board.eligibilities) (length board.products)) changes
  pub caps : StaysWithinCaps board.products board.grid changes left
  pub countable : board.applied + sum left ≤ most_requests * most_supply
