-- The text that is written is that of the closing, and its reply decides the step.
use Rattle.std.proofs.Common.{◌≡◌, ◌++◌, ℕ, List, refl, ap, ap₂, ◌∙◌}
use Rattle.std.proofs.lemmas.Result.{err_from_is_err_and}
use Rattle.clock_house.specs.House.{HouseFields, state_in}
use Rattle.clock_scripts.specs.ScriptedRequests.{scripted_close}
use Rattle.clock_scripts.specs.Pieces.{written_body, written_head, written_request}
use Rattle.clock_sim.specs.Rehearsal.{after_close}
use Rattle.clock_sim.proofs.StepLaws.{out_of_memory, round_closed}
use Rattle.clock_sim.proofs.rounds.close_scripted.Goals as goal

pub returns-in_err-written-clause-step : goal.returns-in_err-written-clause-step
returns-in_err-written-clause-step g c =
    let reported = err_from_is_err_and c.from_residual.result c.from_residual.ensures.1 in
    rw (reported.1, reported.2) (out_of_memory
    (after_close c.args.hub.now.house.setup c.args.closing.now) c.args.hub.now.house c.args.hub.now.house refl)

pub returns-clause-step : goal.returns-clause-step
returns-clause-step g c =
    let one = c.in_ok-written.written in
    let same = c.house-house.ensures ∙ c.front.ensures in
    let head = written_head c.deref.result.now one in
    let body = written_body c.deref-2.result.now one in
    let text : head ++ body ≡ written_request c.write_close.new.text.items one = ap₂ (λ (first second : List ℕ).
    written_head first one ++ written_body second one) c.deref.ensures.value c.deref-2.ensures.value in
    round_closed c.args.hub.now.house c.send.new.hub.house c.args.closing.now
    (head ++ body) c.round-round.result c.send.result (text ∙ c.in_ok-written.ensures.reads
    ∙ ap (λ (house : HouseFields). scripted_close house.setup house.closed c.args.closing.now) same)
    (c.round-round.ensures.is ∙ ap (λ (house : HouseFields). (state_in house).round) same) c.send.ensures.step
