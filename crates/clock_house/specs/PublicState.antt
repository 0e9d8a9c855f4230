-- What a sheet is checked against: the state of the auction, which everyone knows, and the bidder's
-- eligibility and processed demands, which only the bidder knows.
--     first_state products, first_holding products row      both before the first round
--     state_after sheet, holding_after slip      both after a closed round
--     put_fault setup public_state holding round bids      the first fault of a sheet for a round
use Rattle.std.specs.Prelude.{ℕ, ◌+◌, List, ◌∷◌, false, not, ◌==◌, if◌then◌else◌, Option, map}
use Rattle.clock_terms.specs.declared.setup.Product.{Product}
use Rattle.clock_terms.specs.Prices.{opening_prices}
use Rattle.clock_terms.specs.Limits.{PublicSetup}
use Rattle.clock_terms.specs.Faults.{first_fault}
use Rattle.clock_bids.specs.declared.sheet.Bid.{Bid}
use Rattle.clock_bids.specs.Sheet.{sheet_fault}
use Rattle.clock_posting.specs.declared.sheet.RoundSheet.{RoundSheet}
use Rattle.clock_posting.specs.Posting.{next_pair}
pub use Rattle.clock_closing.specs.PublicState.{PublicState}
pub use Rattle.clock_closing.specs.Holdings.{Holding, first_holding, holding_after}
use Rattle.clock_closing.specs.Faults.{fault_check}
use Rattle.clock_house.specs.declared.fault.PutFault.{PutFault}
use Rattle.clock_house.specs.declared.fault.PutFault.TheVariants as put_faults

-- Round 1 has the opening prices.
abbrev pub first_state : List Product → PublicState
first_state products = record { ended = false; round = 1; prices = opening_prices products }

-- The next round starts at the posted prices. At the end, the current round stays the last one.
abbrev pub state_after : RoundSheet → PublicState
state_after sheet = record {
  ended = sheet.ended;
  round = (if sheet.ended then sheet.round else sheet.round + 1);
  prices = map next_pair sheet.lines;
}

-- The first fault: the auction has ended, the round is not the current one, or the bids have one.
abbrev pub put_fault : PublicSetup → PublicState → Holding → ℕ → List Bid → Option PutFault
put_fault setup public_state holding round bids =
    first_fault ((put_faults.Ended, not public_state.ended)
    ∷ (put_faults.WrongRound public_state.round, round == public_state.round) ∷ fault_check
    put_faults.Bid (sheet_fault setup public_state.round public_state.prices holding bids))
