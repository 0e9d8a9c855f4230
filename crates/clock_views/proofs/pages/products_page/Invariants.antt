use Rattle.std.proofs.Common.{◌≡◌, ◌≤◌, ◌+◌, ◌*◌, ◌++◌, drop, nat_lt, false}
use Rattle.clock_views.specs.PublicPages.{product_value}
use Rattle.clock_views.specs.inside.Values.{rest_text}
use Rattle.clock_views.specs.inside.Rooms.{room_of_product}
use Rattle.clock_views.proofs.pages.products_page.Given as goal

-- with the other products it is the whole array
abbrev pub invariant-loop-i : goal.invariant-loop-i
invariant-loop-i l = record {
  adds : l.text.items ++ rest_text (product_value l.setup.version) (nat_lt 0 l.i) (drop l.i l.setup.products)
      ≡ l.initial.text.items ++ rest_text (product_value l.setup.version) false l.setup.products;
  room : l.initial.text.room ≤ l.text.room + room_of_product * l.i;
}
