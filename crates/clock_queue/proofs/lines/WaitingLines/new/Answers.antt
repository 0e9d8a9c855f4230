-- At the start, no line has a position.
use Rattle.clock_queue.proofs.Index.{none_made}
use Rattle.clock_queue.proofs.lines.WaitingLines.new.Goals as goal

pub returns : goal.returns
returns c = none_made c.in_ok-vec.field-0.items c.new.result.items c.args.count
    (c.in_ok-vec.ensures.items_if_clones_equal (λ y h. h)) c.new.ensures.items
