use Rattle.std.proofs.Common.{◌≡◌, ℕ, ◌<◌, false}
use Rattle.clock_posting.specs.Posting.{has_excess}
use Rattle.clock_posting.proofs.posting.has_ended.Given as goal

-- None of the products so far has excess demand.
abbrev pub invariant-loop-i : goal.invariant-loop-i
invariant-loop-i l = (k : ℕ) → k < l.i → has_excess l.products l.grid k ≡ false
