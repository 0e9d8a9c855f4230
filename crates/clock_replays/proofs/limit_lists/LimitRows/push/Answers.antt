-- One more row, for the next product.
use Rattle.clock_replays.proofs.PackedLimitLaws.{row_pushed}
use Rattle.clock_replays.proofs.limit_lists.LimitRows.push.Goals as goal

pub returns-clause-limits : goal.returns-clause-limits
returns-clause-limits c = (row_pushed c.args.self.now.count _ _ _ _ _ _ _ _ _ _ c.requires
    c.in_ok-extend_from_slice.ensures.items c.in_ok-end.ensures c.as_slice.ensures.value c.in_ok-push.ensures.items
    c.in_ok-push-2.ensures.items c.in_ok-product.ensures).0

pub returns-clause-packed : goal.returns-clause-packed
returns-clause-packed c = (row_pushed c.args.self.now.count _ _ _ _ _ _ _ _ _ _ c.requires
    c.in_ok-extend_from_slice.ensures.items c.in_ok-end.ensures c.as_slice.ensures.value c.in_ok-push.ensures.items
    c.in_ok-push-2.ensures.items c.in_ok-product.ensures).1
