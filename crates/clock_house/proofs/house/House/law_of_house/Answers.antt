-- Proves the laws of a house, from its invariant and the laws of the history.
use Rattle.std.proofs.Common.{refl}
use Rattle.clock_house.proofs.Sound.{sound}
use Rattle.clock_house.proofs.Stored.{stands_sound, stands_going, stands_sheets}
use Rattle.clock_house.proofs.Isolation.{seen}
use Rattle.clock_house.proofs.house.House.law_of_house.Goals as goal

pub returns-clause-stands : goal.returns-clause-stands
returns-clause-stands g c = rw (← c.self.view_is) (c.self.invariant.commands, c.self.invariant.stands)

pub returns-clause-limits : goal.returns-clause-limits
returns-clause-limits g c = rw (← c.self.view_is) c.self.invariant.limits

pub returns-clause-sound : goal.returns-clause-sound
returns-clause-sound g c =
    rw (← c.self.view_is) (λ commands. sound c.self.inside.setup c.self.invariant.limits commands)

pub returns-clause-within : goal.returns-clause-within
returns-clause-within g c = rw (← c.self.view_is)
    (stands_sound _ c.self.invariant.limits c.self.invariant.commands c.self.invariant.stands).within

pub returns-clause-priced : goal.returns-clause-priced
returns-clause-priced g c = rw (← c.self.view_is)
    (stands_sound _ c.self.invariant.limits c.self.invariant.commands c.self.invariant.stands).priced

pub returns-clause-going : goal.returns-clause-going
returns-clause-going g c =
    rw (← c.self.view_is) (stands_going _ c.self.invariant.limits c.self.invariant.commands c.self.invariant.stands)

pub returns-clause-rounds : goal.returns-clause-rounds
returns-clause-rounds g c = rw (← c.self.view_is)
    (stands_sound _ c.self.invariant.limits c.self.invariant.commands c.self.invariant.stands).count

pub returns-clause-sheets : goal.returns-clause-sheets
returns-clause-sheets g c = rw (← c.self.view_is) (stands_sheets _ c.self.invariant.commands c.self.invariant.stands)

pub returns-clause-others : goal.returns-clause-others
returns-clause-others g c =
    record { setup = refl; stands = λ commands stands. record { closed = stands.closed; sheets = stands.sheets } }

pub returns-clause-views : goal.returns-clause-views
returns-clause-views g c = λ setup bidder commands. seen setup bidder commands
