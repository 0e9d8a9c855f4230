use Rattle.clock_bids.specs.inside.LastBids.{AreLastPlaces}
use Rattle.clock_bids.proofs.check.LastPlaces.add.Given as goal

-- the table has the bids so far
abbrev pub invariant-loop-i : goal.invariant-loop-i
invariant-loop-i l = AreLastPlaces l.products l.bids l.i l.self.places.items
