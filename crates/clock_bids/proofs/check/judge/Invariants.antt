use Rattle.std.proofs.Common.{◌≡◌, ◌-◌, length}
use Rattle.clock_bids.specs.inside.Judged.{AreJudgedBelow, HasDemand}
use Rattle.clock_bids.specs.inside.LastBids.{IsTableBefore}
use Rattle.clock_bids.proofs.check.judge.Given as goal

-- the bids so far are good and for products below `least`, and the table has the first `placed` bids
abbrev pub invariant-bids : goal.invariant-bids
invariant-bids l = record {
  row : l.held.demands ≡ l.demands;
  next : HasDemand l.held.demands l.next;
  judged : AreJudgedBelow l.setup.products l.prices l.demands l.bids l.judged.count l.judged.least l.judged.taken;
  table : IsTableBefore (length l.setup.products) l.bids l.judged.count l.table.placed l.table.places.items;
}

abbrev pub decreases-bids : goal.decreases-bids
decreases-bids l = length l.bids - l.judged.count
