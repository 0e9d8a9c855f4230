-- Bid processing starts with no request admitted, and ends when all are admitted and none is ready.
use Rattle.std.proofs.Common.{ℕ, List, length, refl, ap, subst, sum, arith}
use Rattle.std.proofs.lemmas.List.Sums.{sum-map}
use Rattle.clock_terms.specs.declared.change.Change.{Change}
use Rattle.clock_processor.specs.Settling.{Reaches}
use Rattle.clock_processor.specs.inside.UnderWay.{progress_of}
use Rattle.clock_queue.specs.inside.Queue.{progress}
use Rattle.clock_queue.proofs.Start.{started, nothing_tracked}
use Rattle.clock_queue.proofs.Ended.{IsDone, is_settlement, is_proper, is_within, is_within_blocks}
use Rattle.clock_queue.proofs.Ended.{is_within_reads}
use Rattle.clock_queue.proofs.queue.settle_by_queue.Goals as goal

pub settle_all-requires-clause-in_order : goal.settle_all-requires-clause-in_order
settle_all-requires-clause-in_order c =
    let lists = c.in-Ok.lists in
    started c.args.board c.args.requests.now (length lists.lines) lists.left lists.ready lists.lines c.requires.can
    c.in-Ok.ensures.enough c.in-Ok.ensures.left c.in-Ok.ensures.ready c.in-Ok.ensures.empty

pub settle_all-requires-clause-tracked : goal.settle_all-requires-clause-tracked
settle_all-requires-clause-tracked c = nothing_tracked c.args.requests.now _ refl

pub settle_all-requires-clause-counts : goal.settle_all-requires-clause-counts
settle_all-requires-clause-counts c =
    omega (arith, c.requires.can.tests, ap (λ (ready : List ℕ). length ready) c.in-Ok.ensures.ready)

pub settle_all-requires-clause-reads : goal.settle_all-requires-clause-reads
settle_all-requires-clause-reads c = omega (arith, c.in-Ok.ensures.reads)

pub settle_all-requires-clause-none : goal.settle_all-requires-clause-none
settle_all-requires-clause-none c = c.in-Ok.ensures.ready

pub returns-in-Ok-settle_all : goal.returns-in-Ok-settle_all
returns-in-Ok-settle_all c =
    let changes : List Change = c.args.requests.now in
    let done : IsDone c.args.board changes c.settle_all.new.self = record {
      in_order = c.in-Ok-settle_all.ensures.goes_on.in_order;
      tracked = c.in-Ok-settle_all.ensures.goes_on.tracked;
      counts = c.in-Ok-settle_all.ensures.goes_on.counts;
      blocks = omega (
        arith,
        c.in-Ok-settle_all.ensures.goes_on.blocks,
        c.requires.can.applied,
        ap sum c.in-Ok.ensures.left,
        sum-map (λ (change : Change). change.amount) changes,
      );
      none = c.in-Ok-settle_all.ensures.none;
      admitted = c.in-Ok-settle_all.ensures.admitted;
      products = c.in-Ok-settle_all.ensures.goes_on.terms.products;
      eligibilities = c.in-Ok-settle_all.ensures.goes_on.terms.eligibilities;
      reached = subst (λ (left : List ℕ). Reaches c.args.board.products c.args.board.eligibilities changes
          (progress_of c.args.board 0 left) (progress c.settle_all.new.self)) c.in-Ok.ensures.left
          c.in-Ok-settle_all.ensures.goes_on.reached;
    } in
    record {
      settlement = is_settlement c.args.board changes c.settle_all.new.self c.end.result done c.end.ensures.settled
          c.requires.can;
      proper = is_proper c.args.board changes c.settle_all.new.self c.end.result done c.end.ensures.settled
          c.requires.can c.end.ensures.in_order;
      tests = is_within c.args.board changes c.settle_all.new.self c.end.result done c.end.ensures.settled;
      blocks = is_within_blocks c.args.board changes c.settle_all.new.self c.end.result done c.end.ensures.settled;
      reads = is_within_reads c.args.board changes c.settle_all.new.self c.end.result done c.end.ensures.settled
          c.settle_all.new.reads c.in-Ok-settle_all.ensures.reads;
    }
