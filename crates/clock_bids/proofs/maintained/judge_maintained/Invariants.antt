use Rattle.std.proofs.Common.{◌≡◌, ◌≤◌}
use Rattle.clock_bids.specs.inside.Judged.{AreJudgedBelow, HasDemand}
use Rattle.clock_bids.proofs.maintained.judge_maintained.Given as goal

-- the bids up to this one are judged
abbrev pub invariant-loop-i : goal.invariant-loop-i
invariant-loop-i l = record {
  row : l.held.demands ≡ l.initial.held.demands;
  next : HasDemand l.held.demands l.next;
  count : l.judged.count ≡ l.i;
  more : l.fn.before.count ≤ l.i;
  judged : AreJudgedBelow l.setup.products l.prices l.initial.held.demands l.bids l.i l.judged.least l.judged.taken;
}
