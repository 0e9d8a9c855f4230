-- What the page of a refusal shows, and which refusal each fault is.
--     has_place code, has_round code      a page with this code shows a place, or the current round
--     is_refusal code      the request was refused
--     Shown      the code of a page, and its place or round if it has one
--     IsShown shown      a page can show these together
--     bare code, at_place code place, wrong_round current      a page with neither, or with one
--     shown_bid fault, shown_tie fault, shown_put fault, shown_close fault      the page of a fault
use Rattle.std.specs.Prelude.{◌≡◌, ℕ, Bool, true, false, Option, Some, None, is_some, IsTrue}
use Rattle.clock_bids.specs.declared.sheet.BidFault.{BidFault}
use Rattle.clock_bids.specs.declared.sheet.BidFault.TheVariants as bid
use Rattle.clock_order.specs.declared.ties.TieFault.{TieFault}
use Rattle.clock_order.specs.declared.ties.TieFault.TheVariants as tie
use Rattle.clock_house.specs.declared.fault.PutFault.{PutFault}
use Rattle.clock_house.specs.declared.fault.PutFault.TheVariants as put
use Rattle.clock_closing.specs.declared.fault.CloseFault.{CloseFault}
use Rattle.clock_closing.specs.declared.fault.CloseFault.TheVariants as close
use Rattle.clock_api.specs.declared.code.Code.{Code}
use Rattle.clock_api.specs.declared.code.Code.TheVariants as reply

-- the place of a bid or of a tie-breaking number in its list, or a product's number, is shown
abbrev pub has_place : Code → Bool
has_place reply.UnknownProduct = true
has_place reply.PriceRange = true
has_place reply.OverCap = true
has_place reply.PriceOrder = true
has_place reply.MixedDirection = true
has_place reply.KeepPrice = true
has_place reply.TieRange = true
has_place reply.TieRepeated = true
has_place reply.PriceLimit = true
has_place _ = false

-- the current round is shown
abbrev pub has_round : Code → Bool
has_round reply.WrongRound = true
has_round _ = false

-- the request was refused
abbrev pub is_refusal : Code → Bool
is_refusal reply.Done = false
is_refusal _ = true

pub record Shown : Type 0 where
  pub code : Code
  pub place : Option ℕ
  pub round : Option ℕ

-- the code is one of a refusal, with a place and a round exactly if its pages show them
pub record IsShown (shown : Shown) : Type 0 where
  pub refused : IsTrue (is_refusal shown.code)
  pub placed : is_some shown.place ≡ has_place shown.code
  pub timed : is_some shown.round ≡ has_round shown.code

abbrev pub bare : Code → Shown
bare code = record { code = code; place = None; round = None }

abbrev pub at_place : Code → ℕ → Shown
at_place code place = record { code = code; place = Some place; round = None }

-- a request for another round than the current one, which is shown
abbrev pub wrong_round : ℕ → Shown
wrong_round current = record { code = reply.WrongRound; place = None; round = Some current }

-- a fault of the bids, with the index of the bid
abbrev pub shown_bid : BidFault → Shown
shown_bid bid.TooMany = bare reply.TooMany
shown_bid (bid.UnknownProduct i) = at_place reply.UnknownProduct i
shown_bid (bid.PriceRange i) = at_place reply.PriceRange i
shown_bid (bid.OverCap i) = at_place reply.OverCap i
shown_bid (bid.PriceOrder i) = at_place reply.PriceOrder i
shown_bid (bid.MixedDirection i) = at_place reply.MixedDirection i
shown_bid (bid.KeepPrice i) = at_place reply.KeepPrice i
shown_bid bid.OverActivity = bare reply.OverActivity
shown_bid bid.NoMemory = bare reply.Memory

-- a fault of the tie-breaking numbers, with the index of the entry
abbrev pub shown_tie : TieFault → Shown
shown_tie (tie.Range i) = at_place reply.TieRange i
shown_tie (tie.Repeated i) = at_place reply.TieRepeated i
shown_tie tie.TooMany = bare reply.TooManyTies
shown_tie tie.NoMemory = bare reply.Memory

abbrev pub shown_put : PutFault → Shown
shown_put put.Ended = bare reply.Ended
shown_put (put.WrongRound current) = wrong_round current
shown_put (put.Bid fault) = shown_bid fault
shown_put put.NoMemory = bare reply.Memory

abbrev pub shown_close : CloseFault → Shown
shown_close close.Ended = bare reply.Ended
shown_close (close.WrongRound current) = wrong_round current
shown_close close.Increment = bare reply.Increment
shown_close (close.Tie fault) = shown_tie fault
shown_close (close.PriceLimit product) = at_place reply.PriceLimit product
shown_close close.NoMemory = bare reply.Memory
