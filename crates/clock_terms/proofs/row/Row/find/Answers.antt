-- The product's group has a start, and the demand found from there is the one of the row that contracts see.
use Rattle.std.proofs.Common.{vec_capacity, arith}
use Rattle.clock_terms.proofs.HeldLaws.{below_count, read_demand}
use Rattle.clock_terms.proofs.StartLaws.{start_read}
use Rattle.clock_terms.proofs.row.Row.find.Goals as goal

pub index-requires : goal.index-requires
index-requires c =
    let row = c.self.inside in
    omega (
      arith,
      c.self.invariant.searched,
      below_count row.count row.held.items c.args.self.now c.args.product c.self.view_is c.requires,
    )

pub place_in_group-place-requires-clause-start : goal.place_in_group-place-requires-clause-start
place_in_group-place-requires-clause-start c =
    let row = c.self.inside in
    start_read row.count row.held.items c.as_slice-held.result.now row.starts.items
    (vec_capacity row.held) c.args.self.now c.args.product c.index.result.now c.self.invariant c.self.view_is c.requires
    c.as_slice-held.ensures.value c.index.ensures

pub returns-clause-is : goal.returns-clause-is
returns-clause-is c =
    let row = c.self.inside in
    read_demand row.count row.held.items c.as_slice-held.result.now c.args.self.now c.args.product c.demand_at.result
    c.self.view_is c.requires c.as_slice-held.ensures.value c.demand_at.ensures.is
