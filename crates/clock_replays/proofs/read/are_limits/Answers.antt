-- Comparing each price with the next decides whether none is above an earlier one.
use Rattle.std.proofs.Common.{length, nat_le, rules}
use Rattle.std.proofs.lemmas.Bool.{le-leb}
use Rattle.std.proofs.lemmas.List.Sorted.{answers_always}
use Rattle.clock_replays.proofs.CheckLaws.{reported_by_next}
use Rattle.clock_replays.proofs.read.are_limits.Goals as goal

pub returns-then-limits-product : goal.returns-then-limits-product
returns-then-limits-product c = rw (le-leb (length c.args.limits.now) c.args.product.now.cap c.if-limits-product.true)
    (reported_by_next c.args.limits.now c.is_sorted_by.result (c.is_sorted_by.ensures.cases
    (λ earlier later. nat_le later earlier) (answers_always _ _ _ (λ f a r g k. search rules))))
