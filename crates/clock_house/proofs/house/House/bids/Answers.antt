-- Proves that the sheet returned is the bidder's sheet in force, and follows from its view.
use Rattle.std.proofs.Common.{◌<◌, length, ap, ◌∙◌, arith}
use Rattle.std.proofs.lemmas.List.{get_or_read}
use Rattle.std.specs.Prelude.{None}
use Rattle.clock_house.proofs.Stored.{stands_sheets}
use Rattle.clock_house.proofs.Seen.{in_force_seen}
use Rattle.clock_house.proofs.house.House.bids.Goals as goal

pub bounds-as_slice-bidder : goal.bounds-as_slice-bidder
bounds-as_slice-bidder g c =
    let many = stands_sheets _ c.self.invariant.commands c.self.invariant.stands in
    let known = rw (← c.self.view_is) at c.requires in
    omega (arith, ap length c.as_slice.ensures, many, known)

pub returns-clause-is : goal.returns-clause-is
returns-clause-is g c =
    let many = stands_sheets _ c.self.invariant.commands c.self.invariant.stands in
    let known = rw (← c.self.view_is) at c.requires in
    let in_range : c.args.bidder < length c.self.inside.sheets = omega (arith, many, known) in
    let is = rw c.as_slice.ensures at c.index-as_slice-bidder.is in
    rw (← c.self.view_is) (c.as_ref.ensures.value ∙ (get_or_read c.self.inside.sheets c.args.bidder _ in_range is None))

pub returns-clause-seen : goal.returns-clause-seen
returns-clause-seen g c =
    λ commands stands. returns-clause-is g c ∙ in_force_seen _ c.args.bidder commands stands c.requires
