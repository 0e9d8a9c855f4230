-- The list is as long as the demands while they are written, and then as long as the entries. It has the capacity that
-- it had.
use Rattle.std.proofs.Common.{◌≡◌, ℕ, List, length, take, vec_len, ap, sym, subst, ◌∙◌, arith}
use Rattle.clock_terms.specs.declared.held_list.PositiveDemand.{PositiveDemand}
use Rattle.clock_terms.specs.HeldDemands.{demands_of}
use Rattle.clock_terms.specs.inside.Rows.{ArePositiveDemands, AreStarts}
use Rattle.clock_terms.proofs.HeldLaws.{length-demands}
use Rattle.clock_terms.proofs.OpenLaws.{written_back}
use Rattle.clock_terms.proofs.row.Row.overwrite.Goals as goal
use Rattle.clock_terms.proofs.row.Row.overwrite.Goals.{After-truncate}

-- there is a demand for each product
each : (count : ℕ) (held : List PositiveDemand) (row demands : List ℕ) → demands_of count held ≡ row
    → length demands ≡ length row → count ≡ length demands
each count held row demands is same =
    omega (arith, same, ap (λ (list : List ℕ). length list) is, length-demands count held)

pub write_held-packed-requires-clause-room : goal.write_held-packed-requires-clause-room
write_held-packed-requires-clause-room c =
    let row = c.self.inside in
    let long : vec_len c.resize.new.self ≡ row.count = rw c.unwrap.ensures at c.resize.ensures.len in
    omega (
      arith,
      c.deref_mut.ensures.len,
      long,
      each row.count row.held.items c.args.self.now c.args.demands.now c.self.view_is c.requires.width,
    )

pub write_held-packed-requires-clause-few : goal.write_held-packed-requires-clause-few
write_held-packed-requires-clause-few c =
    let row = c.self.inside in
    omega (
      arith,
      c.self.invariant.few,
      each row.count row.held.items c.args.self.now c.args.demands.now c.self.view_is c.requires.width,
    )

-- the entries are those that were written
record AreWritten (demands : List ℕ) (count packed : ℕ) (room items : List PositiveDemand) : Type 0 where
  known : count ≡ length demands
  entries : items ≡ take packed room

written : (c : After-truncate) → AreWritten c.args.demands.now c.self.inside.count c.write_held-packed.result
    c.write_held-packed.new.room c.truncate.new.self.items
written c =
    let row = c.self.inside in
    let packed = c.write_held-packed in
    let long : vec_len c.resize.new.self ≡ row.count = rw c.unwrap.ensures at c.resize.ensures.len in
    let count = each row.count row.held.items c.args.self.now c.args.demands.now c.self.view_is c.requires.width in
    record {
      known = count;
      entries = c.truncate.ensures.items ∙ written_back packed.result c.resize.new.self.len packed.new.room _
          (omega (arith, packed.ensures.count, long, count))
          (omega (arith, packed.ensures.count, packed.ensures.length, c.deref_mut.ensures.len, long, count));
    }

pub find_starts-requires-clause-order : goal.find_starts-requires-clause-order
find_starts-requires-clause-order c =
    let is = written (goal.at.find_starts-requires-clause-order c).After-truncate in
    let demands = c.args.demands.now in (
      length demands,
      subst (λ (list : List PositiveDemand). ArePositiveDemands 0 list (length demands))
          (sym (c.as_slice.ensures.value ∙ is.entries)) c.write_held-packed.ensures.order,
      omega (arith, c.self.invariant.few, is.known),
    )

pub invariant_of-self : goal.invariant_of-self
invariant_of-self c =
    let is = written (goal.at.invariant_of-self c).After-truncate in
    record {
      few = c.self.invariant.few;
      order = subst (λ (list : List PositiveDemand). ArePositiveDemands 0 list c.self.inside.count) (sym is.entries)
          (subst (λ (n : ℕ). ArePositiveDemands 0 (take c.write_held-packed.result c.write_held-packed.new.room) n)
          (sym is.known) c.write_held-packed.ensures.order);
      room = omega (arith, c.self.invariant.room, c.truncate.ensures.capacity, c.resize.ensures.capacity);
      searched = omega (arith, c.self.invariant.searched, c.find_starts.ensures.groups);
      groups = omega (arith, c.self.invariant.groups, c.find_starts.ensures.groups);
      starts = subst (λ (list : List PositiveDemand). AreStarts list c.find_starts.new.starts.items)
          c.as_slice.ensures.value c.find_starts.ensures.starts;
    }

pub returns : goal.returns
returns c =
    let is = written (goal.at.returns c).After-truncate in
    ap (λ (n : ℕ). demands_of n c.truncate.new.self.items) is.known
    ∙ ap (demands_of (length c.args.demands.now)) is.entries ∙ c.write_held-packed.ensures.demands
