use Rattle.std.proofs.Common.{◌≡◌, ℕ, ◌-◌, ◌<◌, ◌≤◌, length}
use Rattle.std.specs.Prelude.{slice_index}
use Rattle.clock_terms.proofs.held_list.take_out.Given as goal

-- the starts of the groups so far are moved, and all others are unchanged
abbrev pub invariant-loop-group : goal.invariant-loop-group
invariant-loop-group l = record {
  kept : length l.starts ≡ length l.initial.starts;
  below : (group : ℕ) → group < l.from → slice_index l.starts group ≡ slice_index l.initial.starts group;
  moved : (group : ℕ) → l.from ≤ group → group < l.group
      → slice_index l.starts group ≡ slice_index l.initial.starts group - 1;
  ahead : (group : ℕ) → l.group ≤ group → slice_index l.starts group ≡ slice_index l.initial.starts group;
}
