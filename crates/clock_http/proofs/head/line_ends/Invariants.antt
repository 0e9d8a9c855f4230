use Rattle.std.proofs.Common.{◌≡◌, ◌+◌, ◌-◌, ◌≤◌, drop, length}
use Rattle.std.specs.Prelude.{◌||◌}
use Rattle.clock_http.specs.Scans.{line_ends as count_of_line_ends, has_bare_line_feed, is_loose}
use Rattle.clock_http.proofs.head.line_ends.Given as goal

-- the lines before this index, and those to come
abbrev pub invariant-lines : goal.invariant-lines
invariant-lines l = record {
  within : l.from ≤ length l.text;
  few : l.count ≤ l.from;
  all : l.count + count_of_line_ends (drop l.from l.text) ≡ count_of_line_ends l.text;
  loose : l.loose || has_bare_line_feed 0 (drop l.from l.text) ≡ is_loose l.text;
}

abbrev pub decreases-lines : goal.decreases-lines
decreases-lines l = length l.text - l.from
