-- If the guess finds the product's entry, all entries before it are for lower products, since products rise.
use Rattle.std.proofs.Common.{◌+◌, ◌%◌}
use Rattle.clock_terms.specs.inside.Rows.{group_size}
use Rattle.clock_terms.proofs.HeldLaws.{stands}
use Rattle.clock_terms.proofs.held_list.place_in_group.Goals as goal

pub returns-then-is_at-clause-stands : goal.returns-then-is_at-clause-stands
returns-then-is_at-clause-stands c = stands c.args.held.now c.requires.order.0 c.args.product ((c.args.start
    + c.args.product % group_size) % 18446744073709551616) c.requires.order.1 (c.is_at.ensures c.if-is_at.true)
