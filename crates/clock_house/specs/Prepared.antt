-- Sheets and closings that are accepted, but not yet in effect.
--     PreparedSheet      what contracts see of a prepared sheet
--     FitsSheet prepared house, FitsClosing prepared house      the house accepts what was prepared
use Rattle.std.specs.Prelude.{◌≡◌, ℕ, ◌<◌, List, length, None, Ok}
use Rattle.clock_bids.specs.declared.sheet.Bid.{Bid}
pub use Rattle.clock_closing.specs.Prepared.{PreparedClosing}
use Rattle.clock_house.specs.House.{HouseFields, put_fault_in, closing_in}

-- A bidder's sheet for a round.
pub record PreparedSheet : Type 0 where
  pub bidder : ℕ
  pub round : ℕ
  pub bids : List Bid

-- The bidder is one of the house's set-up, and the house finds no fault in its sheet.
pub record FitsSheet (prepared : PreparedSheet) (house : HouseFields) : Type 0 where
  pub known : prepared.bidder < length house.setup.bidders
  pub good : put_fault_in house prepared.bidder prepared.round prepared.bids ≡ None

-- The house accepts the closing, and the round that it adds is the one prepared.
abbrev pub FitsClosing : PreparedClosing → HouseFields → Type 0
FitsClosing prepared house =
    closing_in house prepared.round prepared.increments prepared.ties ≡ Ok prepared.closed
