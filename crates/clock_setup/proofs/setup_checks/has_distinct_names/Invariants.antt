use Rattle.std.proofs.Common.{◌≡◌, ◌+◌, ◌≤◌, length, map, take}
use Rattle.clock_setup.proofs.setup_checks.has_distinct_names.Given as goal

-- the names so far are collected, and there is capacity for the others
abbrev pub invariant-loop-entry : goal.invariant-loop-entry
invariant-loop-entry g l = record {
  so_far : map (λ name. name.now) l.names.items ≡ map g.E.LimitedEntry.text (take l.entry-index l.entries);
  room : length l.entries ≤ l.entry-index + l.names.room;
}
