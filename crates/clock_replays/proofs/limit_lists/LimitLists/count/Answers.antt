-- There is a list for each product.
use Rattle.std.proofs.Common.{List, ℕ, length, sym, ap, ◌∙◌}
use Rattle.std.proofs.lemmas.List.FromFn.{length-map-range_with_len}
use Rattle.clock_replays.specs.EndedRows.{rows_from}
use Rattle.clock_replays.specs.PackedLimits.{limits_for}
use Rattle.clock_replays.proofs.limit_lists.LimitLists.count.Goals as goal

pub returns : goal.returns
returns c =
    let rows = c.self.inside.rows in
    sym (length-map-range_with_len (limits_for rows.products.items (rows_from 0 rows.ends.items rows.prices.items)) 0
    rows.count) ∙ ap (λ (lists : List (List ℕ)). length lists) c.self.view_is
