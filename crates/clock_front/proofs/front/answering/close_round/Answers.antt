-- Proves the response to a closing, case by case with the laws of ReplyLaws: no closing in the body, closed, or
-- refused.
use Rattle.std.proofs.Common.{◌≡◌, Bool, Ok, Err, ap, sym, subst, ◌∙◌, rules}
use Rattle.clock_terms.specs.Limits.{SetupFields}
use Rattle.clock_house.specs.House.{closing_in}
use Rattle.clock_views.specs.OperatorPages.{closed_value}
use Rattle.clock_bodies.specs.CloseBodies.{close_body, in_version}
use Rattle.clock_front.specs.Outcomes.{answer_of, done}
use Rattle.clock_front.proofs.ChangeLaws.{closed_outcome, closing_fits, closing_followed}
use Rattle.clock_front.proofs.ReplyLaws.{closing_made, closing_refused, refused_close}
use Rattle.clock_front.proofs.front.answering.close_round.Goals as goal

pub returns-in-Err-clause-done : goal.returns-in-Err-clause-done
returns-in-Err-clause-done g c =
    refused_close c.refused_body.result c.args.house.now (close_body c.args.body.now) c.in-Err.fault (λ known.
    subst (λ (setup : SetupFields). in_version setup.version (close_body c.args.body.now) ≡ Err c.in-Err.fault)
    c.setup.ensures (c.in-Err.ensures.err known)) c.refused_body.ensures.known c.refused_body.ensures.response

pub returns-in-Ok-closed-clause-done : goal.returns-in-Ok-closed-clause-done
returns-in-Ok-closed-clause-done g c =
    let house = c.args.house.now in
    let closing = c.in-Ok.closing in
    let made = c.in-Ok-settled.ensures in
    let asked = made.asked in
    closing_made house c.commit.new.self (close_body c.args.body.now) closing _ c.in-Ok-closed.reply
    (subst (λ (setup : SetupFields). in_version setup.version (close_body c.args.body.now) ≡ Ok closing) c.setup.ensures
    c.in-Ok.ensures.ok) (closing_fits c.in-Ok-settled.settled house c.prepare-settled.new.self closing.round
    closing.increments closing.ties asked.0 asked.1 (asked.2 ∙ c.as_slice.ensures) made.fits made.same)
    (c.in-Ok-closed.ensures ∙ ap (λ (ended : Bool). answer_of (done (closed_value closing.round ended))) c.ended.ensures
    ∙ ap answer_of (closed_outcome c.in-Ok-settled.settled house c.prepare-settled.new.self closing.round
    closing.increments closing.ties asked.0 asked.1 (asked.2 ∙ c.as_slice.ensures) made.fits made.same))
    (closing_followed c.in-Ok-settled.settled house c.prepare-settled.new.self c.commit.new.self closing.round
    closing.increments closing.ties asked.0 asked.1
    (asked.2 ∙ c.as_slice.ensures) made.stands c.commit.ensures.followed)

pub returns-in-Err-settled-clause-done : goal.returns-in-Err-settled-clause-done
returns-in-Err-settled-clause-done g c =
    let house = c.args.house.now in
    let closing = c.in-Ok.closing in
    let judged = c.in-Err-settled.ensures in
    let faulty : closing_in house closing.round closing.increments closing.ties ≡ Err c.in-Err-settled.why =
    ap (closing_in house closing.round closing.increments) (sym c.as_slice.ensures) ∙ judged.answer (search rules) in
    closing_refused c.refusal_response.result house c.prepare-settled.new.self
    (close_body c.args.body.now) closing c.in-Err-settled.why (subst (λ (setup : SetupFields). in_version setup.version
    (close_body c.args.body.now) ≡ Ok closing) c.setup.ensures c.in-Ok.ensures.ok) faulty c.from.result c.from.ensures
    c.refusal_response.ensures.response (rw (← c.as_slice.ensures) (judged.followed (search rules))) judged.stands
