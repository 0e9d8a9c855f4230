use Rattle.std.proofs.Common.{◌≡◌, ℕ, ◌+◌, ◌*◌, ◌<◌, ◌≤◌, drop, zip, slice_index}
use Rattle.clock_terms.specs.Eligibility.{activity}
use Rattle.clock_terms.specs.Faults.{first_fault, in_turn}
use Rattle.clock_terms.specs.Limits.{cap_of}
use Rattle.clock_setup.specs.OpeningDocument.{demand_checks}
use Rattle.clock_setup.proofs.opening.row_within.Given as goal

-- The demands so far are within their caps, and those that are left decide the first fault. The units so far plus the
-- activity of the rest are the activity of the row; they are bounded.
abbrev pub invariant-loop-product : goal.invariant-loop-product
invariant-loop-product l = record {
  rest : first_fault (in_turn (demand_checks l.number) l.product (drop l.product (zip l.products l.demands)))
      ≡ first_fault (in_turn (demand_checks l.number) 0 (zip l.products l.demands));
  capped : (k : ℕ) → k < l.product → slice_index l.demands k ≤ cap_of l.products k;
  so_far : l.units + activity (drop l.product l.products) (drop l.product l.demands) ≡ activity l.products l.demands;
  small : l.units ≤ 1000000000 * l.product;
}
