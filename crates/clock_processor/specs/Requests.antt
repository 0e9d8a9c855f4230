-- The requests that bid processing requires.
--     IsRequest bidders products change      a request of a bidder below `bidders` and a product
--         below `products`, for 1 to 1,000 blocks
--     AskWithinCaps products grid changes      applied as a whole, the requests leave each demand
--         within 0 and the cap
--     most_requests      the most requests of a round
--     CanSettle board changes      what a processor requires
use Rattle.std.specs.Prelude.{◌≡◌, ℕ, ◌+◌, ◌*◌, ◌<◌, ◌≤◌, List, length, All}
use Rattle.clock_terms.specs.declared.setup.Product.{Product}
use Rattle.clock_terms.specs.Limits.{most_products, most_bidders, most_supply, most_bids}
use Rattle.clock_terms.specs.Demands.{row_of}
use Rattle.clock_terms.specs.declared.change.Change.{Change}
use Rattle.clock_terms.specs.Requests.{KeepWithinCap}
use Rattle.clock_processor.specs.Board.{BoardFields}

-- The request is of a bidder below `bidders` and a product below `products`, for 1 to 1,000 blocks.
pub record IsRequest (bidders products : ℕ) (change : Change) : Type 0 where
  pub bidder : change.bidder < bidders
  pub product : change.product < products
  pub least : 1 ≤ change.amount
  pub most : change.amount ≤ most_supply

-- For each bidder and product, the demand plus all increases is at most the cap, and all reductions
-- together are at most the demand.
abbrev pub AskWithinCaps : List Product → List (List ℕ) → List Change → Type 0
AskWithinCaps products grid changes = (bidder product : ℕ) → bidder < length grid
    → product < length products → KeepWithinCap products (row_of grid bidder) bidder changes product

-- the most requests of a round: each bid is a request, and so is each demand without a bid
abbrev pub most_requests : ℕ
most_requests = most_bidders * (most_bids + most_products)

-- The board's counts are 0. The requests are at most those of a round, each of the board's bidders
-- and products, and leave each demand within 0 and the cap.
pub record CanSettle (board : BoardFields) (changes : List Change) : Type 0 where
  pub applied : board.applied ≡ 0
  pub tests : board.tests ≡ 0
  pub count : length changes ≤ most_requests
  pub requests : All (IsRequest (length board.eligibilities) (length board.products)) changes
  pub caps : AskWithinCaps board.products board.grid changes
