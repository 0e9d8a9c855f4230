-- Each turn of the loop plays one round. It ends with the auction, or without a closing left.
use Rattle.std.proofs.Common.{◌≡◌, ℕ, true, ap, sym, subst, ◌∙◌, arith}
use Rattle.std.proofs.lemmas.Result.{err_from_is_err_and}
use Rattle.clock_terms.specs.Limits.{SetupFields}
use Rattle.clock_house.specs.House.{HouseFields, state_in}
use Rattle.clock_sim.specs.Rehearsal.{after_puts, after_close, rehearsed}
use Rattle.clock_sim.specs.inside.Steps.{AreScriptsOf}
use Rattle.clock_sim.proofs.StepLaws.{begins, no_further, puts_then_close, round_passed, round_ends, round_refused}
use Rattle.clock_sim.proofs.StepLaws.{closings_spent, last_refused}
use Rattle.clock_sim.proofs.rounds.play.Goals as goal

pub loop-closing-init : goal.loop-closing-init
loop-closing-init g c = (
  begins (rehearsed c.args.hub.now.house.setup c.args.scripts.now c.args.closings.now) c.args.hub.now.house,
  c.requires.going,
)

pub put_all-requires-clause-scripts : goal.put_all-requires-clause-scripts
put_all-requires-clause-scripts g c = subst (λ (setup : SetupFields). AreScriptsOf setup c.args.scripts.now)
    (sym c.loop-closing.invariant.0.setup) c.requires.scripts

pub put_all-requires-2-clause-scripts : goal.put_all-requires-2-clause-scripts
put_all-requires-2-clause-scripts g c = subst (λ (setup : SetupFields). AreScriptsOf setup c.args.scripts.now)
    (sym c.loop-closing.invariant.0.setup) c.requires.scripts

pub returns-in_err-put_all-clause-step : goal.returns-in_err-put_all-clause-step
returns-in_err-put_all-clause-step g c =
    let reported = err_from_is_err_and c.from_residual.result c.from_residual.ensures.1 in
    let now = c.loop-closing.hub.house in
    let next = c.put_all.new.hub.house in
    rw (reported.1, reported.2) (round_refused
    (rehearsed c.args.hub.now.house.setup c.args.scripts.now c.args.closings.now) c.args.scripts.now c.args.closings.now
    c.loop-closing.closing-index c.closing-item.result c.args.hub.now.house now next c.loop-closing-test.true
    c.closing-item.is c.loop-closing.invariant.0 _ (no_further {T = ℕ} (after_puts now.setup 0 c.args.scripts.now)
    (after_close now.setup c.closing-item.result) now next _ c.in_err-put_all.ensures.step))

pub returns-in_err-close_scripted-clause-step : goal.returns-in_err-close_scripted-clause-step
returns-in_err-close_scripted-clause-step g c =
    let reported =
    err_from_is_err_and c.from_residual-in_err-close_scripted.result c.from_residual-in_err-close_scripted.ensures.1 in
    let now = c.loop-closing.hub.house in
    let next = c.close_scripted.new.hub.house in
    rw (reported.1, reported.2) (round_refused
    (rehearsed c.args.hub.now.house.setup c.args.scripts.now c.args.closings.now) c.args.scripts.now c.args.closings.now
    c.loop-closing.closing-index c.closing-item.result c.args.hub.now.house now next c.loop-closing-test.true
    c.closing-item.is c.loop-closing.invariant.0 _ (puts_then_close c.args.scripts.now c.closing-item.result now
    c.put_all.new.hub.house next _ _ c.in_ok-put_all.ensures.step c.in_err-close_scripted.ensures.step))

pub returns-then-ended : goal.returns-then-ended
returns-then-ended g c =
    let now = c.loop-closing.hub.house in
    let next = c.close_scripted.new.hub.house in
    let over : (state_in next).ended ≡ true = sym (c.ended.ensures.is
    ∙ ap (λ (house : HouseFields). (state_in house).ended) (c.house.ensures ∙ c.front.ensures)) ∙ c.if-ended.true in
    record {
      step = round_ends (rehearsed c.args.hub.now.house.setup c.args.scripts.now c.args.closings.now) c.args.scripts.now
          c.args.closings.now c.loop-closing.closing-index c.closing-item.result c.args.hub.now.house now next
          c.loop-closing-test.true c.closing-item.is c.loop-closing.invariant.0 _ _
          (puts_then_close c.args.scripts.now c.closing-item.result now c.put_all.new.hub.house next _ _
          c.in_ok-put_all.ensures.step c.in_ok-close_scripted.ensures.step) over;
      refusal_code = tt;
      ended = over;
    }

pub loop-closing-preserved : goal.loop-closing-preserved
loop-closing-preserved g c =
    let now = c.loop-closing.hub.house in
    let next = c.close_scripted.new.hub.house in
    let over : (state_in next).ended ≡ c.ended.result = sym (c.ended.ensures.is
    ∙ ap (λ (house : HouseFields). (state_in house).ended) (c.house.ensures ∙ c.front.ensures)) in
    round_passed (rehearsed c.args.hub.now.house.setup c.args.scripts.now c.args.closings.now) c.args.scripts.now
    c.args.closings.now c.loop-closing.closing-index c.closing-item.result c.args.hub.now.house now next
    c.loop-closing-test.true c.closing-item.is c.loop-closing.invariant.0 _ (puts_then_close c.args.scripts.now
    c.closing-item.result now c.put_all.new.hub.house next _ _ c.in_ok-put_all.ensures.step
    c.in_ok-close_scripted.ensures.step) (over ∙ c.if-ended.false) c.loop-closing.invariant.1

pub returns-in_err-put_all-2-clause-step : goal.returns-in_err-put_all-2-clause-step
returns-in_err-put_all-2-clause-step g c =
    let reported =
    err_from_is_err_and c.from_residual-in_err-put_all-2.result c.from_residual-in_err-put_all-2.ensures.1 in
    rw (reported.1, reported.2)
    (last_refused (rehearsed c.args.hub.now.house.setup c.args.scripts.now c.args.closings.now) c.args.scripts.now
    c.args.closings.now c.loop-closing.closing-index c.args.hub.now.house c.loop-closing.hub.house
    c.put_all-2.new.hub.house (omega arith) c.loop-closing.invariant.0 _ c.in_err-put_all-2.ensures.step)

pub returns-clause-step : goal.returns-clause-step
returns-clause-step g c = closings_spent (rehearsed c.args.hub.now.house.setup c.args.scripts.now c.args.closings.now)
    c.args.scripts.now c.args.closings.now c.loop-closing.closing-index c.args.hub.now.house c.loop-closing.hub.house
    c.put_all-2.new.hub.house (omega arith) c.loop-closing.invariant.0 _ c.in_ok-put_all-2.ensures.step
