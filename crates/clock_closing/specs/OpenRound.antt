-- The input of a closing: a round before it is closed.
--     OpenRound      the state, each bidder's eligibility and demands, the sheets in force
--     holding_at holdings bidder, bids_at sheets bidder      one bidder's, from these
--     IsWithinLimits products holding      demands within the caps, and activity within eligibility
--     HasSoundPrices products now      the prices of the current round are in order
--     IsOpen setup now      bidders within limits, prices in order, sheets that pass the checks
--     OpenRoundFields, open_at setup round ..      what contracts see of an open round
--     IsOpenRound round      the invariant of its type
use Rattle.std.specs.Prelude.{◌≡◌, ℕ, ◌+◌, ◌<◌, ◌≤◌, List, [], false, Option, None, unwrap_or}
use Rattle.std.specs.Prelude.{length, sum_by, slice_index_or, All}
use Rattle.std.specs.List.{range_with_len}
use Rattle.clock_money.specs.Price.{highest_price}
use Rattle.clock_terms.specs.declared.setup.Product.{Product}
use Rattle.clock_terms.specs.declared.prices.PricePair.{PricePair}
use Rattle.clock_terms.specs.Limits.{SetupFields, PublicSetup, public_setup, IsProduct, IsRow}
use Rattle.clock_terms.specs.Limits.{most_products, most_bidders, most_eligibility}
use Rattle.clock_terms.specs.Prices.{opening_prices}
use Rattle.clock_terms.specs.Eligibility.{activity}
use Rattle.clock_bids.specs.declared.sheet.Bid.{Bid}
use Rattle.clock_bids.specs.Sheet.{IsGoodSheet}
use Rattle.clock_posting.specs.Posting.{IsRising}
use Rattle.clock_closing.specs.PublicState.{PublicState}
use Rattle.clock_closing.specs.Holdings.{Holding, holdings_of}

-- The state of the auction, what each bidder has, and the sheets in force.
pub record OpenRound : Type 0 where
  pub public_state : PublicState
  pub holdings : List Holding
  pub sheets : List (Option (List Bid))

-- The bidders' numbers, from 0.
abbrev pub bidder_numbers : OpenRound → List ℕ
bidder_numbers now = range_with_len 0 (length now.holdings)

-- What a bidder has. For a number that is no bidder's it is nothing.
abbrev pub holding_at : List Holding → ℕ → Holding
holding_at holdings bidder =
    slice_index_or holdings bidder (record { eligibility = 0; demands = [] })

-- The bids of a bidder's sheet in force. No sheet counts as an empty one.
abbrev pub bids_at : List (Option (List Bid)) → ℕ → List Bid
bids_at sheets bidder = unwrap_or (slice_index_or sheets bidder None) []

-- A demand for each product, within its cap; activity within eligibility; and that bounded.
pub record IsWithinLimits (products : List Product) (holding : Holding) : Type 0 where
  pub row : IsRow products holding.demands
  pub within : activity products holding.demands ≤ holding.eligibility
  pub most : holding.eligibility ≤ most_eligibility

-- Prices are ordered, from one dollar to the highest price. From round 2 the clock price is higher,
-- and each closed round from the second has raised the sum of the start-of-round prices.
pub record HasSoundPrices (products : List Product) (now : PublicState) : Type 0 where
  pub numbered : 1 ≤ now.round
  pub pairs : length now.prices ≡ length products
  pub ordered : All (λ pair. pair.start ≤ pair.clock) now.prices
  pub positive : All (λ pair. 1 ≤ pair.start) now.prices
  pub highest : All (λ pair. pair.start ≤ highest_price) now.prices
  pub rising : 2 ≤ now.round → All IsRising now.prices
  pub bounded : 2 ≤ now.round
      → now.round + length products ≤ 2 + sum_by (λ pair. pair.start) now.prices

-- An open round is in order: the set-up is within its limits, each bidder is, the prices are in
-- order, and each sheet in force passes the checks.
pub record IsOpen (setup : PublicSetup) (now : OpenRound) : Type 0 where
  pub limits : All IsProduct setup.products
  pub few_products : length setup.products ≤ most_products
  pub few_bidders : length now.holdings ≤ most_bidders
  pub within : (bidder : ℕ) → bidder < length now.holdings
      → IsWithinLimits setup.products (holding_at now.holdings bidder)
  pub priced : HasSoundPrices setup.products now.public_state
  pub good : (bidder : ℕ) → bidder < length now.holdings → IsGoodSheet setup now.public_state.round
      now.public_state.prices (holding_at now.holdings bidder) (bids_at now.sheets bidder)

-- In contracts, an open round is a set-up, and the input of its closing.
pub record OpenRoundFields : Type 0 where
  pub setup : SetupFields
  pub before : OpenRound

-- An open round of a set-up, from the current round, its prices, each bidder's eligibility and
-- demands, and the sheets in force. The auction has not ended.
abbrev pub open_at : SetupFields → ℕ → List PricePair → List ℕ → List (List ℕ)
    → List (Option (List Bid)) → OpenRoundFields
open_at setup round prices eligibilities demands sheets = record {
  setup = setup;
  before = record {
    public_state = record { ended = false; round = round; prices = prices };
    holdings = holdings_of eligibilities demands;
    sheets = sheets;
  };
}

-- Each bidder has an entry in both lists, the round is in order, and round 1 has the opening
-- prices.
pub record IsOpenRound (round : OpenRoundFields) : Type 0 where
  pub holdings : length round.before.holdings ≡ length round.setup.bidders
  pub sheets : length round.before.sheets ≡ length round.setup.bidders
  pub sound : IsOpen (public_setup round.setup) round.before
  pub opening : round.before.public_state.round ≡ 1
      → round.before.public_state.prices ≡ opening_prices round.setup.products
