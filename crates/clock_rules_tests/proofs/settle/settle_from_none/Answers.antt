-- No bidder demands anything at first.
use Rattle.clock_processor.proofs.NoDemands.{nothing_demanded}
use Rattle.clock_rules_tests.proofs.settle.settle_from_none.Goals as goal

pub settle_in_turn-requires-clause-within : goal.settle_in_turn-requires-clause-within
settle_in_turn-requires-clause-within g c = rw (c.in-Ok-zero.ensures, ← c.in-Ok.ensures)
    (nothing_demanded c.args.setup.now.products c.in-Ok.eligibilities)
