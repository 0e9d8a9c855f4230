-- By computation, for no rows.
use Rattle.std.proofs.Common.{length, sym, ap, ◌∙◌}
use Rattle.clock_replays.proofs.EndedRowLaws.{no_rows}
use Rattle.clock_replays.proofs.PackedLimitLaws.{rising_none}
use Rattle.clock_replays.proofs.limit_lists.LimitRows.new.Goals as goal

pub returns-clause-packed : goal.returns-clause-packed
returns-clause-packed c = (
  (no_rows c.new-2.result.items c.new-3.result.items c.new-2.ensures.items c.new-3.ensures.items).1,
  ap length c.new.ensures.items ∙ sym (ap length c.new-2.ensures.items),
  rising_none c.new.result.items c.new.ensures.items,
)
