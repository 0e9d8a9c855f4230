-- What holds after every list of commands.
--     AreNumbered bidders products closed      the closed rounds are numbered from 1
--     StaysSupplied products later earlier      aggregate demand, once at least supply, remains so
--     IsSound setup auction      both, bidders within their limits, sound prices, bounded rounds
use Rattle.std.specs.Prelude.{◌≡◌, ℕ, suc, ◌+◌, ◌*◌, ◌<◌, ◌≤◌, List, [], ◌∷◌, false, length}
use Rattle.std.specs.List.{AllPairs}
use Rattle.clock_money.specs.Price.{highest_price}
use Rattle.clock_terms.specs.declared.setup.Product.{Product}
use Rattle.clock_terms.specs.Limits.{SetupFields, most_products, supply_of}
use Rattle.clock_terms.specs.Demands.{total_of}
pub use Rattle.clock_closing.specs.OpenRound.{IsWithinLimits, HasSoundPrices, IsOpen}
use Rattle.clock_closing.specs.Results.{result_demands}
use Rattle.clock_house.specs.History.{ClosedRound, Auction, public_state, holding}

-- The most rounds of an auction. Each from round 2 raises some price by a dollar at least.
abbrev pub most_rounds : ℕ
most_rounds = most_products * highest_price + 2

-- Closed rounds, newest first, are numbered from 1. Each has results for all bidders and products.
abbrev pub AreNumbered : ℕ → ℕ → List ClosedRound → Type 0
AreNumbered bidders products [] = Unit {0}
AreNumbered bidders products (round ∷ rounds) =
    (round.sheet.round ≡ suc (length rounds)) × (length round.slips ≡ bidders)
    × (length round.sheet.lines ≡ products) × AreNumbered bidders products rounds

-- If aggregate demand was at least supply after the earlier round, it is after the later one.
abbrev pub StaysSupplied : List Product → ClosedRound → ClosedRound → Type 0
StaysSupplied products later earlier =
    (product : ℕ) → supply_of products product ≤ total_of (result_demands earlier.slips) product
    → supply_of products product ≤ total_of (result_demands later.slips) product

-- Rounds are numbered and bounded, and each bidder is within its caps and its eligibility. Unless
-- the auction has ended, the current prices are in order. Once a product's aggregate demand is at
-- least supply after a round, it is so after each later round.
pub record IsSound (setup : SetupFields) (auction : Auction) : Type 0 where
  pub numbered : AreNumbered (length setup.bidders) (length setup.products) auction.closed
  pub within : (bidder : ℕ) → bidder < length setup.bidders
      → IsWithinLimits setup.products (holding setup auction.closed bidder)
  pub priced : (public_state setup.products auction.closed).ended ≡ false
      → HasSoundPrices setup.products (public_state setup.products auction.closed)
  pub supplied : AllPairs (StaysSupplied setup.products) auction.closed
  pub count : length auction.closed ≤ most_rounds
