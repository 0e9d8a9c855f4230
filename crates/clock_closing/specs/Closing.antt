-- The closing of a round, from all that is known before it. These are the FCC's procedures for
-- Auction 105; the rules' sections "What is refused", "Bid processing", and "After a round".
--     requests now ties      all bidders' requests, in the order of processing
--     round_result products now ties      the processed demands and posted prices of the round
--     closed_round setup now increments result      the round results and bidder results
--     closing setup now round increments ties      the round that it adds, or its first fault
--     closing_now fields increments ties      that for the current round
-- Here `now` is the open round, with all that is known before it is closed, and `round` a number.
use Rattle.std.specs.Prelude.{ℕ, List, ◌∷◌, ◌++◌, not, ◌==◌, if◌then◌else◌, Result, length, map}
use Rattle.std.specs.Prelude.{flat_map}
use Rattle.clock_terms.specs.declared.setup.Product.{Product}
use Rattle.clock_terms.specs.declared.increments.Increments.{Increments}
use Rattle.clock_terms.specs.Limits.{PublicSetup, public_setup}
use Rattle.clock_terms.specs.Increments.{are_increments}
use Rattle.clock_terms.specs.Demands.{row_of}
use Rattle.clock_terms.specs.Faults.{first_fault, unless}
use Rattle.clock_terms.specs.Eligibility.{activity, next_eligibility}
use Rattle.clock_terms.specs.declared.change.Change.{Change}
use Rattle.clock_bids.specs.Sheet.{asked_demands}
use Rattle.clock_bids.specs.Changes.{changes_of_sheet}
use Rattle.clock_order.specs.declared.ties.Tie.{Tie}
use Rattle.clock_order.specs.Ties.{tie_fault}
use Rattle.clock_order.specs.Order.{processing_list}
use Rattle.clock_processor.specs.Settling.{Progress, settled}
use Rattle.clock_posting.specs.Posting.{round_sheet, opening_posted, price_limit_fault}
use Rattle.clock_posting.specs.PostedPrice.{posted_prices}
use Rattle.clock_closing.specs.declared.closed_round.Slip.{Slip}
pub use Rattle.clock_closing.specs.declared.closed_round.ClosedRound.{ClosedRound}
use Rattle.clock_closing.specs.declared.fault.CloseFault.{CloseFault}
use Rattle.clock_closing.specs.declared.fault.CloseFault.TheVariants as close_faults
use Rattle.clock_closing.specs.Faults.{fault_check}
use Rattle.clock_closing.specs.OpenRound.{OpenRound, OpenRoundFields, bidder_numbers, holding_at}
use Rattle.clock_closing.specs.OpenRound.{bids_at}

-- The requested demands of all bidders, a row for each, from their sheets in force.
abbrev pub asked_grid : List Product → OpenRound → List (List ℕ)
asked_grid products now =
    map (λ bidder. asked_demands (length products) (bids_at now.sheets bidder)) (bidder_numbers now)

-- The requests that a bidder's sheet in force makes.
abbrev pub requests_by : OpenRound → ℕ → List Change
requests_by now bidder = changes_of_sheet now.public_state.prices
    (holding_at now.holdings bidder).demands bidder (bids_at now.sheets bidder)

-- All bidders' requests, in the order of processing.
abbrev pub requests : OpenRound → List Tie → List Change
requests now ties = processing_list ties (flat_map (requests_by now) (bidder_numbers now))

-- Bid processing of these requests: the processed demands, and what is left of each request.
abbrev pub settlement : List Product → OpenRound → List Change → Progress
settlement products now changes = settled products (map (λ holding. holding.eligibility)
    now.holdings) changes (map (λ holding. holding.demands) now.holdings)

-- The processed demands of a round, a row for each bidder, and its posted prices.
pub record RoundResult : Type 0 where
  pub grid : List (List ℕ)
  pub posted : List ℕ

-- Round 1: the quantities bid become the demands, and the posted prices are the opening prices.
abbrev pub first_result : List Product → OpenRound → RoundResult
first_result products now =
    record { grid = asked_grid products now; posted = opening_posted products }

-- From round 2: the demands after bid processing, and the posted prices that follow from them.
abbrev pub later_result : List Product → OpenRound → List Change → RoundResult
later_result products now changes = record {
  grid = (settlement products now changes).grid;
  posted = posted_prices products now.public_state.prices changes
      (settlement products now changes).left (settlement products now changes).grid;
}

-- The processed demands and posted prices of the round.
abbrev pub round_result : List Product → OpenRound → List Tie → RoundResult
round_result products now ties = if now.public_state.round == 1 then first_result products now
    else later_result products now (requests now ties)

-- A bidder's results of a round: its processed activity, next eligibility, and processed demands.
abbrev pub slip_after : PublicSetup → ℕ → ℕ → List ℕ → Slip
slip_after setup round eligibility demands = record {
  round = round;
  activity = activity setup.products demands;
  eligibility = next_eligibility eligibility (activity setup.products demands) setup.requirement;
  demands = demands;
}

-- The bidder results of all bidders, from the processed demands.
abbrev pub slips_after : PublicSetup → OpenRound → List (List ℕ) → List Slip
slips_after setup now grid = map (λ bidder. slip_after setup now.public_state.round
    (holding_at now.holdings bidder).eligibility (row_of grid bidder)) (bidder_numbers now)

-- The round results and bidder results of a round.
abbrev pub closed_round : PublicSetup → OpenRound → Increments → RoundResult → ClosedRound
closed_round setup now increments result = record {
  sheet = round_sheet now.public_state.round setup.products now.public_state.prices result.grid
      result.posted increments;
  slips = slips_after setup now result.grid;
}

-- The round that a closing adds, or its first fault. The order of the checks is our own.
abbrev pub closing : PublicSetup → OpenRound → ℕ → Increments → List Tie
    → Result ClosedRound CloseFault
closing setup now round increments ties = let result = round_result setup.products now ties in
    unless (first_fault ((close_faults.Ended, not now.public_state.ended)
    ∷ (close_faults.WrongRound now.public_state.round, round == now.public_state.round)
    ∷ (close_faults.Increment, are_increments (length setup.products) increments)
    ∷ fault_check close_faults.Tie (tie_fault (length now.holdings) (length setup.products) ties)
    ++ fault_check close_faults.PriceLimit (price_limit_fault setup.products result.grid
    result.posted increments))) (closed_round setup now increments result)

-- The round that a closing of the current round adds, or its first fault.
abbrev pub closing_now : OpenRoundFields → Increments → List Tie → Result ClosedRound CloseFault
closing_now fields increments ties = closing
    (public_setup fields.setup) fields.before fields.before.public_state.round increments ties
