use Rattle.std.proofs.Common.{◌≡◌, ℕ, ◌<◌, ◌≤◌, length, take}
use Rattle.std.specs.Prelude.{slice_index}
use Rattle.clock_terms.specs.HeldDemands.{demand_for}
use Rattle.clock_terms.specs.inside.Rows.{ArePositiveDemands}
use Rattle.clock_terms.proofs.held_list.write_held.Given as goal

-- the entries so far are the positive demands of the products so far
abbrev pub invariant-loop-product : goal.invariant-loop-product
invariant-loop-product l = record {
  few : l.kept ≤ l.product;
  same : length l.room ≡ length l.initial.room;
  order : ArePositiveDemands 0 (take l.kept l.room) l.product;
  shown : (k : ℕ) → k < l.product → demand_for (take l.kept l.room) k ≡ slice_index l.demands k;
}
