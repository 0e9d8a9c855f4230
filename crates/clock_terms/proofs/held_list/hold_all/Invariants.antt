use Rattle.std.proofs.Common.{◌≡◌, ℕ, ◌<◌}
use Rattle.std.specs.Prelude.{slice_index}
use Rattle.clock_terms.specs.HeldDemands.{demand_for}
use Rattle.clock_terms.specs.inside.Rows.{ArePositiveDemands}
use Rattle.clock_terms.proofs.held_list.hold_all.Given as goal

-- the entries so far are the positive demands of the products so far
abbrev pub invariant-loop-product : goal.invariant-loop-product
invariant-loop-product l = record {
  order : ArePositiveDemands 0 l.held.items l.product;
  shown : (k : ℕ) → k < l.product → demand_for l.held.items k ≡ slice_index l.demands k;
}
