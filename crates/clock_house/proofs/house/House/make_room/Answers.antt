-- Proves that allocating memory for one more round changes nothing else.
use Rattle.std.proofs.Common.{refl}
use Rattle.clock_house.proofs.Stored.{stored_in_room}
use Rattle.clock_house.proofs.house.House.make_room.Goals as goal

pub invariant_of-self : goal.invariant_of-self
invariant_of-self g c = rw c.in_err-reserve.ensures.items (stored_in_room _ _ _ _ _ _ _ c.self.invariant)

pub returns-in_err-reserve-clause-same : goal.returns-in_err-reserve-clause-same
returns-in_err-reserve-clause-same g c =
    rw (← c.self.view_is, c.in_err-reserve.ensures.items) (record { setup = refl; closed = refl; sheets = refl })

pub invariant_of-self-2 : goal.invariant_of-self-2
invariant_of-self-2 g c = rw c.in_ok-reserve.ensures.items (stored_in_room _ _ _ _ _ _ _ c.self.invariant)

pub returns-clause-same : goal.returns-clause-same
returns-clause-same g c =
    rw (← c.self.view_is, c.in_ok-reserve.ensures.items) (record { setup = refl; closed = refl; sheets = refl })
