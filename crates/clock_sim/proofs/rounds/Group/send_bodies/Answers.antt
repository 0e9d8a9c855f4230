-- Each turn of the loop sends one body; the first refusal is that of the group.
use Rattle.std.proofs.Common.{ℕ, List, ap}
use Rattle.clock_scripts.specs.Pieces.{written_body}
use Rattle.std.proofs.lemmas.Result.{err_from_is_err_and}
use Rattle.clock_sim.specs.inside.Groups.{after_group, requests_in}
use Rattle.clock_sim.proofs.WrittenLaws.{sent_in_turn, refused_in_turn, waiting_at}
use Rattle.clock_sim.proofs.rounds.Group.send_bodies.Goals as goal

pub loop-one-preserved : goal.loop-one-preserved
loop-one-preserved g c = sent_in_turn (after_group c.args.hub.now.house.setup (requests_in c.args.self.now))
    c.args.self.now c.loop-one.one-index c.deref-one-items.result.now
    (written_body c.deref.result.now (waiting_at c.deref-one-items.result.now c.loop-one.one-index).written)
    c.args.hub.now.house c.loop-one.hub c.send_body.new.hub c.deref-one-items.ensures.value c.loop-one-test.true
    (ap (λ (text : List ℕ). written_body text (waiting_at c.deref-one-items.result.now c.loop-one.one-index).written)
    c.deref.ensures.value) c.loop-one.invariant.0 c.loop-one.invariant.1 _ c.in_ok-send_body.ensures.step
    c.requires.apart c.in_ok-send_body.ensures.others

pub returns-in_err-send_body-clause-step : goal.returns-in_err-send_body-clause-step
returns-in_err-send_body-clause-step g c =
    let reported = err_from_is_err_and c.from_residual.result c.from_residual.ensures.1 in
    rw (reported.1, reported.2) (refused_in_turn (after_group c.args.hub.now.house.setup (requests_in c.args.self.now))
    c.args.self.now c.loop-one.one-index c.deref-one-items.result.now
    (written_body c.deref.result.now (waiting_at c.deref-one-items.result.now c.loop-one.one-index).written)
    c.args.hub.now.house c.loop-one.hub c.send_body.new.hub c.deref-one-items.ensures.value c.loop-one-test.true
    (ap (λ (text : List ℕ). written_body text (waiting_at c.deref-one-items.result.now c.loop-one.one-index).written)
    c.deref.ensures.value) c.loop-one.invariant.0 c.loop-one.invariant.1 _ _ c.in_err-send_body.ensures.step)
