use Rattle.std.proofs.Common.{◌≡◌, ◌≤◌, ◌+◌, ◌++◌, ◌-◌, length, nat_lt, false}
use Rattle.std.specs.List.{range_with_len}
use Rattle.clock_views.specs.OperatorPages.{result_in}
use Rattle.clock_views.specs.Rooms.{most_items}
use Rattle.clock_views.specs.Values.{items_of}
use Rattle.clock_views.specs.inside.Values.{rest_text}
use Rattle.clock_views.proofs.pages.headed_results.Given as goal

-- with the other bidders it is the whole array
abbrev pub invariant-loop-bidder : goal.invariant-loop-bidder
invariant-loop-bidder g l = record {
  adds : l.text.items ++ rest_text (result_in l.house) (nat_lt 0 l.bidder)
      (range_with_len l.bidder (length l.house.setup.bidders - l.bidder))
      ≡ l.initial.text.items ++ rest_text (result_in l.house) false (range_with_len 0 (length l.house.setup.bidders));
  room : l.initial.text.room
      + most_items (items_of (result_in l.house) (range_with_len l.bidder (length l.house.setup.bidders - l.bidder)))
      ≤ l.text.room + most_items (items_of (result_in l.house) (range_with_len 0 (length l.house.setup.bidders)));
}
