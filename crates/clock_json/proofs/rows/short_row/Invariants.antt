use Rattle.std.proofs.Common.{◌≡◌, ◌<◌, ◌≤◌, ℕ, false, get_or}
use Rattle.clock_json.specs.Rows.{shortened}
use Rattle.clock_json.proofs.rows.short_row.Given as goal

-- the places so far have their numbers, and where none so far is long, each is short
abbrev pub invariant-loop-place : goal.invariant-loop-place
invariant-loop-place l = record {
  written : (k : ℕ) → k < l.place → get_or l.row.items k 0 ≡ shortened (get_or l.numbers k 0);
  short : l.has_long ≡ false → (k : ℕ) → k < l.place → get_or l.numbers k 0 ≤ 65535;
}
