use Rattle.std.proofs.Common.{◌≡◌, ◌+◌, ◌≤◌, map}
use Rattle.std.specs.Prelude.{None}
use Rattle.std.specs.List.{range_with_len}
use Rattle.clock_house.proofs.opening.no_sheets.Given as goal

-- The list has no sheets of the bidders so far, and capacity for the others.
abbrev pub invariant-loop-bidder : goal.invariant-loop-bidder
invariant-loop-bidder l = record {
  items : l.sheets.items ≡ map (λ bidder. None) (range_with_len 0 l._bidder);
  room : l.count ≤ l._bidder + l.sheets.room;
}
