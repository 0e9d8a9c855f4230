-- Each turn of the loop admits one more request.
use Rattle.std.proofs.Common.{arith, refl, ◌∙◌, ap, ◌+◌}
use Rattle.clock_queue.proofs.Steps.{goes_further}
use Rattle.clock_queue.proofs.queue.Queue.settle_all.Goals as goal

pub loop-place-init : goal.loop-place-init
loop-place-init c = record {
  goes_on = record {
    in_order = c.requires.in_order;
    tracked = c.requires.tracked;
    counts = c.requires.counts;
    terms = record { products = refl; eligibilities = refl };
    blocks = omega arith;
    reached = (0, refl);
  };
  reads = c.requires.reads;
  none = c.requires.none;
  admitted = c.requires.first;
}

pub loop-place-preserved : goal.loop-place-preserved
loop-place-preserved c = record {
  goes_on = goes_further c.args.requests.now c.args.self.now c.loop-place.self c.settle_next.new.self
      c.loop-place.invariant.goes_on c.in_ok-settle_next.ensures.goes_on;
  reads = c.in_ok-settle_next.ensures.reads;
  none = c.in_ok-settle_next.ensures.none;
  admitted = c.in_ok-settle_next.ensures.admitted ∙ ap (λ n. n + 1) c.loop-place.invariant.admitted;
}
