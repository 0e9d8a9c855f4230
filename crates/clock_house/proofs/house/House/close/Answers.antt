-- Proves that preparing and then committing a closing closes the round, and that a refusal is that of preparing.
use Rattle.std.proofs.Common.{ap}
use Rattle.std.proofs.lemmas.Result.{err_from_is_err_and}
use Rattle.std.specs.Prelude.{Ok, Err}
use Rattle.clock_house.proofs.Closes.{answers-close, close-done, close-done-followed}
use Rattle.clock_house.proofs.house.House.close.Goals as goal

pub returns-clause-ok : goal.returns-clause-ok
returns-clause-ok g c =
    let made = c.in_ok-prepared.ensures in
    close-done c.args.self.now c.prepare.new.self c.commit.new.self c.args.round c.args.increments.now c.args.ties.now
    c.in_ok-prepared.prepared made.asked made.fits made.same c.commit.ensures.closed

pub returns-clause-followed : goal.returns-clause-followed
returns-clause-followed g c =
    let made = c.in_ok-prepared.ensures in
    λ other. close-done-followed c.args.self.now c.prepare.new.self c.commit.new.self c.args.round c.args.increments.now
    c.args.ties.now c.in_ok-prepared.prepared made.asked made.stands c.commit.ensures.followed

pub returns-clause-answer : goal.returns-clause-answer
returns-clause-answer g c = c.in_ok-prepared.ensures.answer

pub returns-clause-history : goal.returns-clause-history
returns-clause-history g c =
    λ commands stands. answers-close _ (Ok c.in_ok-prepared.prepared) (c.in_ok-prepared.ensures.history commands stands)

-- The error of a closing is that of preparing it.
pub returns-in_err-prepared-clause-answer : goal.returns-in_err-prepared-clause-answer
returns-in_err-prepared-clause-answer g c =
    let reported = err_from_is_err_and c.from_residual.result c.from_residual.ensures.1 in
    rw (reported.1, reported.2) c.in_err-prepared.ensures.answer

pub returns-in_err-prepared-clause-history : goal.returns-in_err-prepared-clause-history
returns-in_err-prepared-clause-history g c =
    let reported = err_from_is_err_and c.from_residual.result c.from_residual.ensures.1 in
    rw (reported.1, reported.2) c.in_err-prepared.ensures.history

pub returns-in_err-prepared-clause-followed : goal.returns-in_err-prepared-clause-followed
returns-in_err-prepared-clause-followed g c =
    let reported = err_from_is_err_and c.from_residual.result c.from_residual.ensures.1 in
    rw (reported.1, reported.2) (λ other. c.in_err-prepared.ensures.followed (λ same. other (ap Err same)))
