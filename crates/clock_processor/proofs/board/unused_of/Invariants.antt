use Rattle.std.proofs.Common.{◌≡◌, ℕ, ◌+◌, ◌<◌, ◌≤◌, length}
use Rattle.std.specs.Prelude.{slice_index}
use Rattle.clock_terms.specs.Demands.{row_of}
use Rattle.clock_terms.specs.Eligibility.{activity}
use Rattle.clock_processor.proofs.board.unused_of.Given as goal

-- the unused eligibility of each bidder so far, and capacity for the others
abbrev pub invariant-loop-bidder : goal.invariant-loop-bidder
invariant-loop-bidder l = record {
  lengths : length l.unused.items ≡ l.bidder;
  room : length l.eligibilities ≤ l.bidder + l.unused.room;
  sums : (k : ℕ) → k < l.bidder
      → slice_index l.unused.items k + activity l.products (row_of l.grid k) ≡ slice_index l.eligibilities k;
}
