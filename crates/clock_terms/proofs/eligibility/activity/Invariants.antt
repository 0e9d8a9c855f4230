use Rattle.std.proofs.Common.{◌≡◌, ◌+◌, ◌*◌, ◌≤◌, drop}
use Rattle.clock_terms.specs.Eligibility.{activity}
use Rattle.clock_terms.proofs.eligibility.activity.Given as goal

-- the activity so far plus the activity of the rest is the activity of the row; the sum so far is bounded
abbrev pub invariant-loop-place : goal.invariant-loop-place
invariant-loop-place l = record {
  so_far : l.total + activity (drop l.place l.products) (drop l.place l.demands) ≡ activity l.products l.demands;
  small : l.total ≤ 1000000000 * l.place;
}
