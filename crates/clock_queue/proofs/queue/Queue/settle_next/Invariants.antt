use Rattle.std.proofs.Common.{◌≡◌, ◌+◌}
use Rattle.clock_queue.specs.inside.Queue.{GoesOn, StaysWithinReads, work}
use Rattle.clock_queue.proofs.queue.Queue.settle_next.Given as goal

-- the invariants hold, and the steps so far reach this state
abbrev pub invariant-loop-place : goal.invariant-loop-place
invariant-loop-place l = record {
  goes_on : GoesOn l.requests l.fn.self l.self;
  reads : StaysWithinReads l.requests l.self l.reads;
  admitted : l.self.admitted ≡ l.fn.self.admitted + 1;
}

-- a number that falls with each test
abbrev pub decreases-loop-place : goal.decreases-loop-place
decreases-loop-place l = work l.self
