-- Proves that what a house shows a bidder follows from the bidder's view, since the house stands for commands.
use Rattle.std.proofs.Common.{◌≡◌, ℕ, ◌<◌, List, [], refl, ap, subst, ◌∙◌, length}
use Rattle.std.specs.Prelude.{Option, Some, None, Result, option_map, slice_index_or}
use Rattle.clock_terms.specs.Limits.{public_setup}
use Rattle.clock_bids.specs.declared.sheet.Bid.{Bid}
use Rattle.clock_posting.specs.declared.sheet.RoundSheet.{RoundSheet}
use Rattle.clock_closing.specs.declared.closed_round.Slip.{Slip}
use Rattle.clock_house.specs.Command.{Command}
use Rattle.clock_house.specs.PublicState.{PublicState, Holding, put_fault}
use Rattle.clock_house.specs.History.{ClosedRound, public_state, holding, bidder_at, slip_of, round_at}
use Rattle.clock_house.specs.View.{view_of, seen_state, seen_holding, seen_in_force, seen_put_fault, seen_round}
use Rattle.clock_house.specs.View.{shown_to}
use Rattle.clock_house.specs.declared.fault.PutFault.{PutFault}
use Rattle.clock_house.specs.House.{HouseFields, StandsFor, AnswersPut, AnswersByView, state_in, holding_in}
use Rattle.clock_house.specs.House.{put_fault_in}
use Rattle.clock_house.proofs.Isolation.{seen}
use Rattle.clock_house.proofs.Puts.{sheet_at}

module _ (house : HouseFields) (bidder : ℕ) (commands : List Command) (stands : StandsFor commands house) where
  pub standing_seen : state_in house ≡ seen_state (public_setup house.setup) (view_of house.setup bidder commands)
  standing_seen = ap (public_state house.setup.products) stands.closed ∙ (seen house.setup bidder commands).public_state

  pub holding_seen : holding_in house bidder
      ≡ seen_holding (public_setup house.setup) (bidder_at house.setup bidder) (view_of house.setup bidder commands)
  holding_seen = ap (λ (closed : List ClosedRound). holding house.setup closed bidder) stands.closed
      ∙ (seen house.setup bidder commands).holding

  pub put_fault_seen : (round : ℕ) (bids : List Bid) →
      put_fault_in house bidder round bids ≡ seen_put_fault (public_setup house.setup) (bidder_at house.setup bidder)
      (view_of house.setup bidder commands) round bids
  put_fault_seen round bids = ap (λ (now : PublicState). put_fault (public_setup house.setup) now
      (holding_in house bidder) round bids) standing_seen ∙ ap (λ (own : Holding). put_fault (public_setup house.setup)
      (seen_state (public_setup house.setup) (view_of house.setup bidder commands)) own round bids) holding_seen

  pub in_force_seen : bidder < length house.setup.bidders → slice_index_or house.sheets bidder None
      ≡ seen_in_force (public_setup house.setup) (bidder_at house.setup bidder) (view_of house.setup bidder commands)
  in_force_seen known =
      sheet_at house bidder 0 [] commands stands bidder known ∙ (seen house.setup bidder commands).in_force

  -- The round results and bidder results of a closed round follow from the view.
  both_seen : (n : ℕ)
      → option_map (shown_to bidder) (round_at n house.closed) ≡ seen_round n (view_of house.setup bidder commands)
  both_seen n = ap (λ (closed : List ClosedRound). option_map (shown_to bidder) (round_at n closed)) stands.closed
      ∙ (seen house.setup bidder commands).rounds n

  sheet_part : (found : Option ClosedRound) → option_map (λ closed. closed.sheet) found
      ≡ option_map (λ (seen : RoundSheet × Slip). seen.0) (option_map (shown_to bidder) found)
  sheet_part None = refl
  sheet_part (Some closed) = refl

  slip_part : (found : Option ClosedRound) → option_map (slip_of bidder) found
      ≡ option_map (λ (seen : RoundSheet × Slip). seen.1) (option_map (shown_to bidder) found)
  slip_part None = refl
  slip_part (Some closed) = refl

  pub sheet_seen : (n : ℕ) → option_map (λ closed. closed.sheet) (round_at n house.closed)
      ≡ option_map (λ seen. seen.0) (seen_round n (view_of house.setup bidder commands))
  sheet_seen n =
      sheet_part (round_at n house.closed) ∙ ap (option_map (λ (seen : RoundSheet × Slip). seen.0)) (both_seen n)

  pub slip_seen : (n : ℕ) → option_map (slip_of bidder) (round_at n house.closed)
      ≡ option_map (λ seen. seen.1) (seen_round n (view_of house.setup bidder commands))
  slip_seen n =
      slip_part (round_at n house.closed) ∙ ap (option_map (λ (seen : RoundSheet × Slip). seen.1)) (both_seen n)

-- The answer to a sheet by the house is the answer by the bidder's view.
pub answers-by_view : {T : Type 0} (house : HouseFields) (bidder round : ℕ) (bids : List Bid) (result : Result T
    PutFault) → AnswersPut (put_fault_in house bidder round bids) result → AnswersByView house bidder round bids result
answers-by_view house bidder round bids result is = λ commands stands. subst
    (λ (fault : Option PutFault). AnswersPut fault result) (put_fault_seen house bidder commands stands round bids) is
