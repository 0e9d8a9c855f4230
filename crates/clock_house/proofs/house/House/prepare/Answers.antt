-- Proves that preparing returns what the rules say, check by check, since the memory allocated for the round changes no
-- closing.
use Rattle.std.proofs.Common.{ap, ◌∙◌}
use Rattle.std.proofs.lemmas.Result.{err_from_is_err_and}
use Rattle.clock_order.specs.declared.ties.TieFault.TheVariants as tie_faults
use Rattle.clock_house.specs.PublicState.{PublicState}
use Rattle.clock_house.specs.House.{state_in}
use Rattle.clock_house.proofs.Closes.{standing_unchanged, still_unchanged}
use Rattle.clock_house.proofs.Closes.{fits-asked, answers-close, answers-now, answers-old, answers-history}
use Rattle.clock_house.proofs.Closes.{refused-followed, round-refused, round-refused-history, round-refused-followed}
use Rattle.clock_house.proofs.Closes.{round-refused-memory}
use Rattle.clock_house.proofs.house.House.prepare.Goals as goal

-- A closing that is refused before it is processed.
pub returns-in_err-old-clause-answer : goal.returns-in_err-old-clause-answer
returns-in_err-old-clause-answer g c =
    let reported = err_from_is_err_and c.from_residual.result c.from_residual.ensures.1 in
    rw (reported.1, reported.2) (round-refused c.args.self.now c.begin_closing.new.self c.begin_closing.ensures.same
    c.args.round c.args.increments.now c.args.ties.now c.in_err-old.field-0.0 c.in_err-old.ensures.refused)

pub returns-in_err-old-clause-history : goal.returns-in_err-old-clause-history
returns-in_err-old-clause-history g c =
    let reported = err_from_is_err_and c.from_residual.result c.from_residual.ensures.1 in
    rw (reported.1, reported.2) (round-refused-history c.args.self.now c.begin_closing.new.self
    c.begin_closing.ensures.same c.args.round c.args.increments.now c.args.ties.now c.in_err-old.field-0.0
    c.in_err-old.ensures.refused)

pub returns-in_err-old-clause-followed : goal.returns-in_err-old-clause-followed
returns-in_err-old-clause-followed g c =
    let reported = err_from_is_err_and c.from_residual.result c.from_residual.ensures.1 in
    rw (reported.1, reported.2) (round-refused-followed c.args.self.now c.begin_closing.new.self
    c.begin_closing.ensures.same c.args.round c.args.increments.now c.args.ties.now c.in_err-old.field-0.0
    c.in_err-old.ensures.refused)

pub returns-in_err-old-clause-memory : goal.returns-in_err-old-clause-memory
returns-in_err-old-clause-memory g c =
    let reported = err_from_is_err_and c.from_residual.result c.from_residual.ensures.1 in
    rw (reported.1, reported.2) (λ e. round-refused-memory c.args.self.now c.begin_closing.new.self
    c.begin_closing.ensures.same c.args.round c.args.increments.now c.args.ties.now c.in_err-old.field-0.0
    c.in_err-old.ensures.refused tie_faults.NoMemory cc)

pub returns-in_err-old-clause-stands : goal.returns-in_err-old-clause-stands
returns-in_err-old-clause-stands g c =
    still_unchanged c.args.self.now c.begin_closing.new.self c.begin_closing.ensures.same

-- A closing that is processed.
pub open_round-requires : goal.open_round-requires
open_round-requires g c = ap (λ (now : PublicState). now.ended) (standing_unchanged c.args.self.now
    c.begin_closing.new.self c.begin_closing.ensures.same) ∙ c.in_ok-old.ensures.current.going

pub returns-clause-answer : goal.returns-clause-answer
returns-clause-answer g c = answers-close _ c.close-prepared.result (answers-old c.args.self.now
    c.begin_closing.new.self c.begin_closing.ensures.same c.args.round c.args.increments.now c.args.ties.now
    c.in_ok-old.ensures.current.number c.close-prepared.result c.open_round.result c.open_round.ensures
    c.close-prepared.ensures.answer)

pub returns-clause-fits : goal.returns-clause-fits
returns-clause-fits g c = fits-asked c.begin_closing.new.self (state_in c.begin_closing.new.self).round
    c.args.increments.now c.args.ties.now c.close-prepared.result (answers-now c.args.self.now
    c.begin_closing.new.self c.begin_closing.ensures.same c.args.round c.args.increments.now c.args.ties.now
    c.in_ok-old.ensures.current.number c.close-prepared.result c.open_round.result c.open_round.ensures
    c.close-prepared.ensures.answer) (rw c.open_round.ensures at c.close-prepared.ensures.asked)

pub returns-clause-history : goal.returns-clause-history
returns-clause-history g c = answers-history c.args.self.now c.begin_closing.new.self c.begin_closing.ensures.same
    c.args.round c.args.increments.now c.args.ties.now c.in_ok-old.ensures.current.number c.close-prepared.result
    c.open_round.result c.open_round.ensures c.close-prepared.ensures.answer

pub returns-clause-stands : goal.returns-clause-stands
returns-clause-stands g c =
    still_unchanged c.args.self.now c.begin_closing.new.self c.begin_closing.ensures.same

pub returns-clause-followed : goal.returns-clause-followed
returns-clause-followed g c = refused-followed c.args.self.now c.begin_closing.new.self c.begin_closing.ensures.same
    c.args.round c.args.increments.now c.args.ties.now c.in_ok-old.ensures.current.number c.close-prepared.result
    c.open_round.result c.open_round.ensures c.close-prepared.ensures.answer
