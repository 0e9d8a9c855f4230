use Rattle.std.proofs.Common.{◌≡◌, ◌≤◌, ◌+◌, ◌-◌, ◌*◌, length}
use Rattle.std.specs.List.{range_with_len}
use Rattle.clock_terms.specs.Limits.{most_products}
use Rattle.clock_views.specs.OperatorPages.{result_in}
use Rattle.clock_views.specs.Rooms.{most_items}
use Rattle.clock_views.specs.Values.{items_of}
use Rattle.clock_views.specs.inside.Rooms.{room_of_result}
use Rattle.clock_views.proofs.pages.results_capacity.Given as goal

-- with the other bidders it is all, and a bidder's demands are those of the most products
abbrev pub invariant-loop-bidder : goal.invariant-loop-bidder
invariant-loop-bidder g l = record {
  all : l.capacity + most_items (items_of (result_in l.house) (range_with_len l.bidder (length l.house.setup.bidders
      - l.bidder))) ≡ 58 + most_items (items_of (result_in l.house) (range_with_len 0 (length l.house.setup.bidders)));
  small : l.capacity ≤ 58 + room_of_result most_products * l.bidder;
}
