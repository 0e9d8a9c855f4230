-- Proves that a closing returns what the rules say: its first fault, or what it produces.
use Rattle.std.proofs.Common.{ap, ◌∙◌}
use Rattle.clock_order.specs.declared.ties.TieFault.TheVariants as tie_faults
use Rattle.clock_closing.specs.OpenRound.{OpenRoundFields}
use Rattle.clock_closing.proofs.Posts.{posted-no_tie}
use Rattle.clock_closing.proofs.open_round.OpenRound.close.Goals as goal

pub results-requires : goal.results-requires
results-requires g c = c.in_ok-increments.ensures.allowed

pub returns-in-Ok-clause-asked : goal.returns-in-Ok-clause-asked
returns-in-Ok-clause-asked g c = (
  ap (λ (round : OpenRoundFields). round.before.public_state.round) c.self.view_is,
  c.in_ok-increments.ensures.copies.0,
  c.in_ok-increments.ensures.copies.1,
)

pub returns-in-Ok-clause-answer : goal.returns-in-Ok-clause-answer
returns-in-Ok-clause-answer g c = c.in_ok-increments.ensures.produced ∙ c.in-Ok.ensures.closes

pub returns-in-Err-clause-answer : goal.returns-in-Err-clause-answer
returns-in-Err-clause-answer g c = λ other. c.in_ok-increments.ensures.produced ∙ c.in-Err.ensures other

pub returns-in-Err-clause-memory : goal.returns-in-Err-clause-memory
returns-in-Err-clause-memory g c = λ e.
    posted-no_tie c.args.self.now c.in_ok-increments.increments c.in_ok-increments.ties c.in-Err.fault
    c.in-Err.ensures tie_faults.NoMemory (let same = e in cc)
