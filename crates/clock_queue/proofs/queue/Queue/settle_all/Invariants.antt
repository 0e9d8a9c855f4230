use Rattle.std.proofs.Common.{◌≡◌, []}
use Rattle.clock_queue.specs.inside.Queue.{GoesOn, StaysWithinReads}
use Rattle.clock_queue.proofs.queue.Queue.settle_all.Given as goal

-- the requests so far are admitted, and none is ready
abbrev pub invariant-loop-place : goal.invariant-loop-place
invariant-loop-place l = record {
  goes_on : GoesOn l.requests l.fn.self l.self;
  reads : StaysWithinReads l.requests l.self l.reads;
  none : l.self.ready ≡ [];
  admitted : l.self.admitted ≡ l._place;
}
