-- Products without a row have no limits.
use Rattle.std.proofs.Common.{◌≡◌, ◌+◌, ap, ◌∙◌, arith, rules}
use Rattle.clock_replays.specs.EndedRows.{rows_from}
use Rattle.clock_replays.specs.PackedLimits.{limits_of}
use Rattle.clock_replays.proofs.PackedLimitLaws.{limits_empty, rising_more}
use Rattle.clock_replays.proofs.limit_lists.LimitRows.push_empty.Goals as goal

pub returns-clause-limits : goal.returns-clause-limits
returns-clause-limits c =
    let old = c.args.self.now in
    let rows = rows_from 0 old.ends.items old.prices.items in
    let after : c.in_ok-self.field-0 ≡ old.count + c.args.count = search rules in
    ap (λ n. limits_of n old.products.items rows) after
    ∙ limits_empty c.args.count old.count old.products.items rows c.requires.2

pub returns-clause-packed : goal.returns-clause-packed
returns-clause-packed c =
    let old = c.args.self.now in
    let after : c.in_ok-self.field-0 ≡ old.count + c.args.count = search rules in (
      c.requires.0,
      c.requires.1,
      rising_more 0 old.products.items old.count c.in_ok-self.field-0 c.requires.2 (omega (arith, after)),
    )
