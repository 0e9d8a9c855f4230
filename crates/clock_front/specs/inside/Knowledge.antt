-- All that a bidder knows of the auction from its view, and the reply computed from that.
--     Knowledge      what a bidder knows
--     known_from setup row view      what it knows from its view
--     known_outcome setup row known ask      the reply to it
use Rattle.std.specs.Prelude.{ℕ, List, Option, option_map, option_and_then, Ok, Err}
use Rattle.clock_terms.specs.declared.setup.Bidder.{Bidder}
use Rattle.clock_terms.specs.Limits.{PublicSetup}
use Rattle.clock_bids.specs.declared.sheet.Bid.{Bid}
use Rattle.clock_bids.specs.Holding.{Holding}
use Rattle.clock_posting.specs.declared.sheet.RoundSheet.{RoundSheet}
use Rattle.clock_closing.specs.declared.closed_round.Slip.{Slip}
use Rattle.clock_house.specs.PublicState.{PublicState, put_fault}
use Rattle.clock_house.specs.View.{Seen, seen_state, seen_holding, seen_in_force, seen_round}
use Rattle.clock_api.specs.declared.code.Code.TheVariants as code
use Rattle.clock_views.specs.Refusals.{bare}
use Rattle.clock_views.specs.PublicPages.{status_value, products_value, round_results_value}
use Rattle.clock_views.specs.BidderPages.{account_value, bids_value, bidder_results_value}
use Rattle.clock_http.specs.Decimals.{plain_number}
use Rattle.clock_front.specs.Requests.{Ask}
use Rattle.clock_front.specs.Requests as asked
use Rattle.clock_front.specs.Outcomes.{Outcome, done, refused, not_allowed, body_code}
use Rattle.clock_front.specs.Outcomes.{page_or_no_round, put_outcome}

-- What a bidder knows: the state of the auction, its eligibility and processed demands, its sheet
-- in force, and of each closed round the round results and its bidder results.
pub record Knowledge : Type 0 where
  pub public_state : PublicState
  pub holding : Holding
  pub in_force : Option (List Bid)
  pub rounds : ℕ → Option (RoundSheet × Slip)

-- What a bidder knows from its view.
abbrev pub known_from : PublicSetup → Bidder → List Seen → Knowledge
known_from setup row view = record {
  public_state = seen_state setup view;
  holding = seen_holding setup row view;
  in_force = seen_in_force setup row view;
  rounds = λ n. seen_round n view;
}

-- The closed round whose number is the last part of a path.
abbrev pub known_round : Knowledge → List ℕ → Option (RoundSheet × Slip)
known_round known segment = option_and_then known.rounds (plain_number segment)

-- The reply to a bidder, from what it knows: the pages for everyone, its own pages, and the replies
-- to its sheets. The operator's pages are refused.
unfoldable pub known_outcome : PublicSetup → Bidder → Knowledge → Ask → Outcome
known_outcome setup row known (asked.turned_away why) = refused (bare why)
known_outcome setup row known (asked.no_method page) = not_allowed page
known_outcome setup row known asked.status =
    done (status_value setup known.public_state.round known.public_state.ended)
known_outcome setup row known asked.products = done (products_value setup)
known_outcome setup row known (asked.round_results segment) =
    page_or_no_round (option_map (λ seen. round_results_value setup seen.0)
    (known_round known segment))
known_outcome setup row known asked.account = done (account_value setup.products row.name
    known.public_state.round known.holding known.public_state.ended)
known_outcome setup row known asked.bids = done (bids_value known.public_state.round known.in_force)
known_outcome setup row known (asked.put (Err fault)) = refused (bare (body_code fault))
known_outcome setup row known (asked.put (Ok body)) =
    put_outcome body (put_fault setup known.public_state known.holding body.round body.bids)
known_outcome setup row known (asked.bidder_results segment) =
    page_or_no_round (option_map (λ seen. bidder_results_value seen.1) (known_round known segment))
known_outcome setup row known (asked.close body) = refused (bare code.Role)
known_outcome setup row known asked.results = refused (bare code.Role)
