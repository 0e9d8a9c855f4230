use Rattle.std.proofs.Common.{◌≡◌, ℕ, ◌<◌, length, get_or}
use Rattle.std.specs.Prelude.{None}
use Rattle.clock_house.specs.inside.OpenRounds.{no_slip}
use Rattle.clock_house.proofs.closing.take_slips.Given as goal

-- The bidders so far have their next eligibility, and no sheet in force.
abbrev pub invariant-loop-bidder : goal.invariant-loop-bidder
invariant-loop-bidder l = record {
  eligibilities : length l.eligibilities ≡ length l.slips;
  each : (k : ℕ) → k < l.bidder → get_or l.eligibilities k 0 ≡ (get_or l.slips k no_slip).eligibility;
  sheets : length l.sheets ≡ length l.initial.sheets;
  none : (k : ℕ) → k < l.bidder → get_or l.sheets k None ≡ None;
}
