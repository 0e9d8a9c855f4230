use Rattle.std.proofs.Common.{◌≡◌, map, take}
use Rattle.clock_json.specs.Rows.{shortened}
use Rattle.clock_json.proofs.rows.short_rows.Given as goal

-- the rows so far are the lists, with each number shortened
abbrev pub invariant-loop-list : goal.invariant-loop-list
invariant-loop-list l = l.rows ≡ map (map shortened) (take l.list-index l.lists)
