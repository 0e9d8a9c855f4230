-- The next request is tested and admitted, then the ready ones are tested.
use Rattle.std.proofs.Common.{◌+◌, ◌∷◌, ◌∙◌, ap}
use Rattle.clock_queue.specs.declared.queue.Queue.{Queue}
use Rattle.clock_queue.proofs.Admits.{tracked_more, kept_popped, tracked_popped}
use Rattle.clock_queue.proofs.Members.{Contains-rest}
use Rattle.clock_queue.proofs.Steps.{goes_further}
use Rattle.clock_queue.proofs.Turns.{admitted_same, next_has_none, next_is_more, goes_on_first, popped_within}
use Rattle.clock_queue.proofs.Turns.{goes_on_popped, less_popped}
use Rattle.clock_queue.proofs.queue.Queue.settle_next.Goals as goal

pub test-requires-clause-tracked : goal.test-requires-clause-tracked
test-requires-clause-tracked c = tracked_more c.args.requests.now c.args.self.now c.args.self.now.ready
    (c.args.self.now.admitted ∷ c.args.self.now.ready)
    (λ place here. Contains-rest c.args.self.now.admitted c.args.self.now.ready place here) c.requires.tracked

pub admit-requires-clause-more : goal.admit-requires-clause-more
admit-requires-clause-more c =
    next_is_more c.args.requests.now c.args.self.now c.test.new.self c.requires.more c.in_ok-test.ensures.tested

pub admit-requires-clause-no_room : goal.admit-requires-clause-no_room
admit-requires-clause-no_room c =
    next_has_none c.args.requests.now c.args.self.now c.test.new.self c.in_ok-test.ensures.tested

pub loop-place-init : goal.loop-place-init
loop-place-init c = record {
  goes_on = goes_on_first c.args.requests.now c.args.self.now c.test.new.self c.admit.new.self.lines c.requires.in_order
      c.requires.tracked c.requires.counts c.requires.none c.requires.more c.in_ok-test.ensures.tested c.admit.new.self
      c.in_ok-admit.ensures.same c.in_ok-admit.ensures.in_order c.in_ok-admit.ensures.tracked;
  reads = c.in_ok-admit.ensures.reads;
  admitted = ap (λ (queue : Queue). queue.admitted) c.in_ok-admit.ensures.same ∙ ap (λ n. n + 1)
      (admitted_same c.args.requests.now c.args.self.now.admitted c.args.self.now c.test.new.self
      c.in_ok-test.ensures.tested);
}

pub test-requires-in-Some-clause-in_order : goal.test-requires-in-Some-clause-in_order
test-requires-in-Some-clause-in_order c = kept_popped c.args.requests.now c.loop-place.self c.in-Some.place
    c.pop.new.self c.loop-place.invariant.goes_on.in_order c.in-Some.ensures.taken

pub test-requires-in-Some-clause-tracked : goal.test-requires-in-Some-clause-tracked
test-requires-in-Some-clause-tracked c = tracked_popped c.args.requests.now c.loop-place.self c.in-Some.place
    c.pop.new.self c.loop-place.invariant.goes_on.tracked c.in-Some.ensures.taken

pub test-requires-in-Some-clause-within : goal.test-requires-in-Some-clause-within
test-requires-in-Some-clause-within c = popped_within c.args.requests.now c.loop-place.self c.in-Some.place
    c.pop.new.self c.loop-place.invariant.goes_on.in_order c.in-Some.ensures.taken

pub loop-place-smaller : goal.loop-place-smaller
loop-place-smaller c = less_popped c.args.requests.now c.loop-place.self c.in-Some.place c.pop.new.self
    c.loop-place.invariant.goes_on.in_order c.in-Some.ensures.taken c.test-in-Some.new.self
    c.in_ok-test-2.ensures.tested

pub loop-place-preserved : goal.loop-place-preserved
loop-place-preserved c = record {
  goes_on = goes_further c.args.requests.now c.args.self.now c.loop-place.self c.test-in-Some.new.self
      c.loop-place.invariant.goes_on (goes_on_popped c.args.requests.now c.loop-place.self c.in-Some.place
      c.pop.new.self c.loop-place.invariant.goes_on.in_order c.in-Some.ensures.taken c.test-in-Some.new.self
      c.loop-place.invariant.goes_on.tracked c.loop-place.invariant.goes_on.counts c.in-Some.ensures.least
      c.in_ok-test-2.ensures.tested);
  reads = c.in_ok-test-2.ensures.reads;
  admitted = admitted_same c.args.requests.now c.in-Some.place _ c.test-in-Some.new.self c.in_ok-test-2.ensures.tested
      ∙ c.loop-place.invariant.admitted;
}
