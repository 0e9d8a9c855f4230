use Rattle.std.proofs.Common.{◌≡◌, ℕ, ◌*◌, ◌<◌, length}
use Rattle.std.specs.Prelude.{slice_index}
use Rattle.clock_terms.specs.inside.Rows.{IsFirstFrom, IsStart, group_size}
use Rattle.clock_terms.proofs.held_list.find_starts.Given as goal

-- the starts so far are right, and all entries before the last one are for products below the next group
abbrev pub invariant-loop-group : goal.invariant-loop-group
invariant-loop-group l = record {
  kept : length l.starts.items ≡ length l.initial.starts.items;
  found : (group : ℕ) → group < l.group → IsFirstFrom l.held (group * group_size) (slice_index l.starts.items group);
  start : IsStart l.held (l.group * group_size) l.start;
}
