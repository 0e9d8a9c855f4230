-- Proves that the stored end and number give the fault of the rules.
use Rattle.std.proofs.Common.{◌∙◌}
use Rattle.clock_closing.specs.declared.fault.CloseFault.TheVariants as close_faults
use Rattle.clock_house.specs.House.{state_in}
use Rattle.clock_house.proofs.Rounds.{late_fault, other_fault}
use Rattle.clock_house.proofs.house.House.close_round_fault.Goals as goal

pub returns-then-self : goal.returns-then-self
returns-then-self g c = late_fault close_faults.Ended close_faults.WrongRound (state_in c.args.self.now) c.args.round
    c.self.inside.ended c.self.inside.round (rw (← c.self.view_is) c.self.invariant.ended_is)
    (rw (← c.self.view_is) c.self.invariant.round_is) c.if-self.true

pub returns : goal.returns
returns g c = c.then_some.ensures ∙ other_fault close_faults.Ended close_faults.WrongRound (state_in c.args.self.now)
    c.args.round c.self.inside.ended c.self.inside.round (rw (← c.self.view_is) c.self.invariant.ended_is)
    (rw (← c.self.view_is) c.self.invariant.round_is) c.if-self.false
