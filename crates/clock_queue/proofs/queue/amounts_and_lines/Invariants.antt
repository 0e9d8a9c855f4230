use Rattle.std.proofs.Common.{◌≡◌, ◌+◌, ◌≤◌, length, map, take, All}
use Rattle.clock_terms.specs.declared.change.Change.{Change}
use Rattle.clock_queue.specs.inside.Lines.{HasLines}
use Rattle.clock_queue.proofs.queue.amounts_and_lines.Given as goal

-- the amounts and the lines of the requests so far, each of which was read once
abbrev pub invariant-loop-place : goal.invariant-loop-place
invariant-loop-place l = record {
  so_far : l.amounts.items ≡ map (λ (change : Change). change.amount) (take l.place l.requests);
  room : length l.requests ≤ l.place + l.amounts.room;
  enough : All (HasLines l.count) (take l.place l.requests);
  reads : l.reads ≤ l.place;
}
