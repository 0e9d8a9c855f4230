use Rattle.std.proofs.Common.{◌≡◌, ◌≤◌, ◌+◌, ◌*◌, ◌++◌, drop, nat_lt, false}
use Rattle.clock_views.specs.BidderPages.{bid_value}
use Rattle.clock_views.specs.inside.Values.{rest_text}
use Rattle.clock_views.specs.inside.Rooms.{room_of_bid}
use Rattle.clock_views.proofs.pages.headed_bids.Given as goal

-- with the other bids it is the whole array
abbrev pub invariant-loop-i : goal.invariant-loop-i
invariant-loop-i l = record {
  adds : l.text.items ++ rest_text bid_value (nat_lt 0 l.i) (drop l.i l.bids)
      ≡ l.initial.text.items ++ rest_text bid_value false l.bids;
  room : l.initial.text.room ≤ l.text.room + room_of_bid * l.i;
}
