use Rattle.std.proofs.Common.{◌≡◌, ◌+◌, ◌≤◌, length, map, take}
use Rattle.clock_setup.proofs.setup_checks.copied_all.Given as goal

-- the values of the entries so far, and capacity for those that are left
abbrev pub invariant-loop-entry : goal.invariant-loop-entry
invariant-loop-entry g l = record {
  same : l.wholes.items ≡ map g.E.LimitedEntry.shown (take l.entry-index l.entries);
  room : length l.entries ≤ l.entry-index + l.wholes.room;
}
