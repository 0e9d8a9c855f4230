-- A start is at most the number of entries, so it fits into 16 bits.
use Rattle.std.proofs.Common.{arith}
use Rattle.clock_terms.proofs.HeldLaws.{counted}
use Rattle.clock_terms.proofs.held_list.find_starts.Goals as goal

pub overflow_cast-start : goal.overflow_cast-start
overflow_cast-start c =
    let order = c.requires.order in
    omega (arith, c.first_from-start.ensures.start.0, counted 0 c.args.held.now order.0 order.1, order.2)
