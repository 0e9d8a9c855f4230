-- Proves that the house stands for one more command after a sheet is put in force.
use Rattle.std.proofs.Common.{◌∷◌, refl, arith}
use Rattle.clock_house.specs.Command.{put}
use Rattle.clock_house.proofs.Stored.{stands_sheets}
use Rattle.clock_house.proofs.Puts.{put-accepted, fits_inside}
use Rattle.clock_house.proofs.house.House.commit_put.Goals as goal

pub set-requires : goal.set-requires
set-requires g c =
    let many = stands_sheets _ c.self.invariant.commands c.self.invariant.stands in
    let fits = fits_inside _ _ _ _ c.prepared.view_is c.self.view_is c.requires in
    omega (arith, many, fits.known)

pub invariant_of-self : goal.invariant_of-self
invariant_of-self g c =
    let fits = fits_inside _ _ _ _ c.prepared.view_is c.self.view_is c.requires in
    record {
      limits = c.self.invariant.limits;
      commands =
          put c.prepared.inside.bidder c.prepared.inside.round c.prepared.inside.sheet ∷ c.self.invariant.commands;
      stands = rw c.set.ensures (put-accepted _ c.prepared.inside.bidder c.prepared.inside.round c.prepared.inside.sheet
          c.self.invariant.commands c.self.invariant.stands fits.known fits.good);
      ended_is = c.self.invariant.ended_is;
      round_is = c.self.invariant.round_is;
      prices_are = c.self.invariant.prices_are;
      eligibilities_are = c.self.invariant.eligibilities_are;
      demands_are = c.self.invariant.demands_are;
    }

pub returns-clause-followed : goal.returns-clause-followed
returns-clause-followed g c =
    let fits = fits_inside _ _ _ _ c.prepared.view_is c.self.view_is c.requires in
    rw (← c.self.view_is, ← c.prepared.view_is)
    (record {
      setup = refl;
      stands = λ commands stands. rw c.set.ensures (put-accepted _ c.prepared.inside.bidder c.prepared.inside.round
          c.prepared.inside.sheet commands stands fits.known fits.good);
    })
