use Rattle.std.proofs.Common.{◌≡◌, ◌+◌, ◌≤◌, length, map, take}
use Rattle.clock_terms.specs.declared.setup.Bidder.{Bidder}
use Rattle.clock_house.proofs.opening.opening_eligibilities.Given as goal

-- The list has the eligibilities of the bidders so far, and capacity for the others.
abbrev pub invariant-loop-bidder : goal.invariant-loop-bidder
invariant-loop-bidder l = record {
  items : l.eligibilities.items ≡ map (λ (bidder : Bidder). bidder.eligibility) (take l.bidder-index l.bidders);
  room : length l.bidders ≤ l.bidder-index + l.eligibilities.room;
}
