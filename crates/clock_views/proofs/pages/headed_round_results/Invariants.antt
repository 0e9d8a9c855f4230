use Rattle.std.proofs.Common.{◌≡◌, ◌≤◌, ◌+◌, ◌*◌, ◌++◌, drop, zip, nat_lt, false}
use Rattle.clock_views.specs.PublicPages.{line_value}
use Rattle.clock_views.specs.inside.Values.{rest_text}
use Rattle.clock_views.specs.inside.Rooms.{room_of_line}
use Rattle.clock_views.proofs.pages.headed_round_results.Given as goal

-- with the other lines it is the whole array
abbrev pub invariant-loop-i : goal.invariant-loop-i
invariant-loop-i l = record {
  adds : l.text.items ++ rest_text (λ row. line_value row.0 row.1) (nat_lt 0 l.i)
      (zip (drop l.i l.setup.products) (drop l.i l.sheet.lines))
      ≡ l.initial.text.items ++ rest_text (λ row. line_value row.0 row.1) false (zip l.setup.products l.sheet.lines);
  room : l.initial.text.room ≤ l.text.room + room_of_line * l.i;
}
