-- The input of a closing, for an auction and for a house.
--     open_round setup auction, open_round_in house      that input
--     no_slip      the bidder results for a number that is no bidder's
--     grid_after round      the processed demands after a closed round
use Rattle.std.specs.Prelude.{ℕ, List, []}
use Rattle.clock_terms.specs.Limits.{SetupFields}
use Rattle.clock_closing.specs.declared.closed_round.Slip.{Slip}
use Rattle.clock_closing.specs.OpenRound.{OpenRound}
use Rattle.clock_closing.specs.Results.{result_demands}
use Rattle.clock_house.specs.History.{ClosedRound, Auction, for_each_bidder, sheet_in_force}
use Rattle.clock_house.specs.History.{round_to_close}
use Rattle.clock_house.specs.House.{HouseFields}

-- The bidder results for a number that is no bidder's.
abbrev pub no_slip : Slip
no_slip = record { round = 0; activity = 0; eligibility = 0; demands = [] }

-- The input of the next closing of an auction.
abbrev pub open_round : SetupFields → Auction → OpenRound
open_round setup auction =
    round_to_close setup auction.closed (for_each_bidder setup (sheet_in_force setup auction))

-- The input of the next closing of a house.
abbrev pub open_round_in : HouseFields → OpenRound
open_round_in house = round_to_close house.setup house.closed house.sheets

-- The processed demands after a closed round, a row for each bidder.
abbrev pub grid_after : ClosedRound → List (List ℕ)
grid_after round = result_demands round.slips
