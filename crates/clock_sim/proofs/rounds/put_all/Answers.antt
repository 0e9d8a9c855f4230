-- Each turn of the loop is one bidder's; what waits after the last is sent.
use Rattle.std.proofs.Common.{◌≡◌, List, [], length, map, ap, refl, sym, subst, arith}
use Rattle.std.proofs.lemmas.Result.{err_from_is_err_and}
use Rattle.clock_terms.specs.Limits.{SetupFields}
use Rattle.clock_replays.specs.declared.replay.Script.{Script}
use Rattle.clock_replays.specs.Replays.{IsScript}
use Rattle.clock_sim.specs.declared.rounds.Group.{Group}
use Rattle.clock_sim.specs.declared.rounds.Waiting.{Waiting}
use Rattle.clock_sim.specs.Rehearsal.{after_puts}
use Rattle.clock_sim.specs.inside.Groups.{request_in, requests_in}
use Rattle.clock_sim.proofs.WrittenLaws.{none_wait}
use Rattle.clock_sim.proofs.TurnLaws.{first_turn, turn_over, turn_refused, last_sent}
use Rattle.clock_sim.proofs.rounds.put_all.Goals as goal

pub loop-bidder-init : goal.loop-bidder-init
loop-bidder-init g c =
    let old = c.args.hub.now in
    let group : Group = record { text = c.args.group.now.text; waiting = c.clear.new.self } in
    let none : requests_in group ≡ [] =
    ap (λ (waiting : List Waiting). map (request_in group.text.items) waiting) c.clear.ensures.items in (
      first_turn old.house.setup (requests_in group) c.args.scripts.now old.house refl (ap length none),
      record { waits = none_wait old.connections group none; going = c.requires.going },
    )

pub put_scripted-requires-clause-known : goal.put_scripted-requires-clause-known
put_scripted-requires-clause-known g c =
    omega (
      arith,
      c.requires.scripts.each,
      ap (λ (setup : SetupFields). length setup.bidders) c.loop-bidder.invariant.0.setup,
    )

pub put_scripted-requires-clause-script : goal.put_scripted-requires-clause-script
put_scripted-requires-clause-script g c =
    let script = c.index-scripts-bidder.result in
    subst (λ (setup : SetupFields). IsScript setup.products script) (sym c.loop-bidder.invariant.0.setup)
    (subst (λ (one : Script). IsScript c.args.hub.now.house.setup.products one) (sym c.index-scripts-bidder.is)
    (c.requires.scripts.all c.loop-bidder.bidder script c.loop-bidder-test.true))

pub loop-bidder-preserved : goal.loop-bidder-preserved
loop-bidder-preserved g c = (
  turn_over (after_puts c.args.hub.now.house.setup 0 c.args.scripts.now) c.args.scripts.now (requests_in
      c.loop-bidder.group) (requests_in c.put_scripted.new.group) c.loop-bidder.bidder c.index-scripts-bidder.result
      c.args.hub.now.house c.loop-bidder.hub.house c.put_scripted.new.hub.house c.loop-bidder-test.true
      c.index-scripts-bidder.is c.loop-bidder.invariant.0 _ c.in_ok-put_scripted.ensures.step.way,
  c.in_ok-put_scripted.ensures.step.under_way,
)

pub returns-in_err-put_scripted-clause-step : goal.returns-in_err-put_scripted-clause-step
returns-in_err-put_scripted-clause-step g c =
    let reported = err_from_is_err_and c.from_residual.result c.from_residual.ensures.1 in
    rw (reported.1, reported.2) (turn_refused
    (after_puts c.args.hub.now.house.setup 0 c.args.scripts.now) c.args.scripts.now (requests_in c.loop-bidder.group)
    (requests_in c.put_scripted.new.group) c.loop-bidder.bidder c.index-scripts-bidder.result c.args.hub.now.house
    c.loop-bidder.hub.house c.put_scripted.new.hub.house c.loop-bidder-test.true c.index-scripts-bidder.is
    c.loop-bidder.invariant.0 _ c.in_err-put_scripted.ensures.step.way)

pub returns-clause-step : goal.returns-clause-step
returns-clause-step g c = last_sent (after_puts c.args.hub.now.house.setup 0 c.args.scripts.now) c.args.scripts.now
    (requests_in c.loop-bidder.group) c.loop-bidder.bidder c.args.hub.now.house c.loop-bidder.hub.house
    c.send_all.new.hub.house c.send_all.result (omega arith) c.loop-bidder.invariant.0 c.send_all.ensures.step
