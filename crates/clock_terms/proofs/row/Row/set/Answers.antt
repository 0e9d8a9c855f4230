-- The search and the stored demand, read from the entries, are those of the row that contracts see. The invariant of
-- `Row` remains.
use Rattle.std.proofs.Common.{ℕ, List, set, vec_capacity, ap, ◌∙◌, arith}
use Rattle.clock_terms.proofs.HeldLaws.{below_count, updated}
use Rattle.clock_terms.proofs.StartLaws.{start_read}
use Rattle.clock_terms.proofs.row.Row.set.Goals as goal

pub index-requires : goal.index-requires
index-requires c =
    let row = c.self.inside in
    omega (
      arith,
      c.self.invariant.searched,
      below_count row.count row.held.items c.args.self.now c.args.product c.self.view_is c.requires.product,
    )

pub place_in_group-place-requires-clause-start : goal.place_in_group-place-requires-clause-start
place_in_group-place-requires-clause-start c =
    let row = c.self.inside in
    start_read row.count row.held.items c.as_slice.result.now row.starts.items
    (vec_capacity row.held) c.args.self.now c.args.product c.index.result.now c.self.invariant c.self.view_is
    c.requires.product c.as_slice.ensures.value c.index.ensures

pub overflow_cast-entry : goal.overflow_cast-entry
overflow_cast-entry c =
    let row = c.self.inside in
    omega (
      arith,
      c.self.invariant.few,
      below_count row.count row.held.items c.args.self.now c.args.product c.self.view_is c.requires.product,
    )

pub store-requires-clause-room : goal.store-requires-clause-room
store-requires-clause-room c =
    let row = c.self.inside in (
      row.count,
      c.self.invariant.order,
      below_count row.count row.held.items c.args.self.now c.args.product c.self.view_is c.requires.product,
      c.self.invariant.few,
      c.self.invariant.room,
    )

pub invariant_of-self : goal.invariant_of-self
invariant_of-self c =
    let row = c.self.inside in
    let within =
    below_count row.count row.held.items c.args.self.now c.args.product c.self.view_is c.requires.product in
    record {
      few = c.self.invariant.few;
      order = c.store.ensures.order row.count c.self.invariant.order within;
      room = omega (arith, c.self.invariant.room, c.store.ensures.room);
      searched = omega (arith, c.self.invariant.searched, c.store.ensures.groups);
      groups = omega (arith, c.self.invariant.groups, c.store.ensures.groups);
      starts = c.store.ensures.starts;
    }

pub returns : goal.returns
returns c =
    let row = c.self.inside in
    let product = c.args.product in
    let within = below_count row.count row.held.items c.args.self.now product c.self.view_is c.requires.product in
    updated row.count row.held.items c.store.new.held.items product c.args.demand c.store.ensures.stored within
    ∙ ap (λ (list : List ℕ). set list product c.args.demand) c.self.view_is
