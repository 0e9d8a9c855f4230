-- The texts of bids, each with a comma before it.
--     bid_text bid, bids_text bids      a bid with a comma before it, and so each of some bids
use Rattle.std.specs.Prelude.{ℕ, List}
use Rattle.clock_bids.specs.declared.sheet.Bid.{Bid}
use Rattle.clock_views.specs.BidderPages.{bid_value}
use Rattle.clock_scripts.specs.inside.Arrays.{with_comma, with_commas}

-- a bid with a comma before it
abbrev pub bid_text : Bid → List ℕ
bid_text bid = with_comma bid_value bid

-- each of some bids with a comma before it
abbrev pub bids_text : List Bid → List ℕ
bids_text bids = with_commas bid_value bids
