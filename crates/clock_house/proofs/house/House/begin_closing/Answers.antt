-- Proves that a closing is refused unless it is for the current round.
use Rattle.std.proofs.Common.{rules, sym, ◌∙◌}
use Rattle.clock_closing.specs.declared.fault.CloseFault.TheVariants as close_faults
use Rattle.clock_house.specs.House.{state_in}
use Rattle.clock_house.proofs.Rounds.{current_of}
use Rattle.clock_house.proofs.house.House.begin_closing.Goals as goal

pub returns-in_ok-make_room-in-None-clause-current : goal.returns-in_ok-make_room-in-None-clause-current
returns-in_ok-make_room-in-None-clause-current g c = current_of close_faults.Ended close_faults.WrongRound
    (state_in c.args.self.now) c.args.round (sym c.close_round_fault.ensures ∙ c.in-None.is)

pub returns-in-Some-clause-refused : goal.returns-in-Some-clause-refused
returns-in-Some-clause-refused g c = λ other. sym c.close_round_fault.ensures ∙ c.in-Some.is

pub returns-in-Some-clause-same : goal.returns-in-Some-clause-same
returns-in-Some-clause-same g c = search rules
