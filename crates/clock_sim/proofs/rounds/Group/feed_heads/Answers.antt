-- Each turn of the loop sends one head, and changes only its connection.
use Rattle.std.proofs.Common.{◌≡◌, ◌++◌, ℕ, List, length, Some, ◌∙◌, ap, subst₂, arith}
use Rattle.clock_connections.specs.Connections.{open_text}
use Rattle.clock_front.specs.Hubs.{IsFed}
use Rattle.clock_scripts.specs.declared.requests.Written.{Written}
use Rattle.clock_scripts.specs.Pieces.{written_head}
use Rattle.clock_sim.specs.declared.rounds.Waiting.{Waiting}
use Rattle.clock_sim.specs.inside.Groups.{GroupRequest, request_in, requests_in}
use Rattle.clock_sim.proofs.GroupLaws.{head_came}
use Rattle.clock_sim.proofs.WrittenLaws.{waiting_at, request_at}
use Rattle.clock_sim.proofs.rounds.Group.feed_heads.Goals as goal

pub loop-one-preserved : goal.loop-one-preserved
loop-one-preserved g c =
    let group = c.args.self.now in
    let old = c.loop-one.hub in
    let i = c.loop-one.one-index in
    let same = c.deref-one-items.ensures.value in
    let at = request_at group i (omega (arith, c.loop-one-test.true, ap (λ (list : List Waiting). length list) same)) in
    let one : GroupRequest = request_in group.text.items (waiting_at group.waiting.items i) in
    let IsResultByCode : List Waiting → List ℕ → Type 0 =
    λ waiting piece. (text : List ℕ) → open_text old.connections (waiting_at waiting i).conn ≡ Some text
    → IsFed old c.feed.new.self (waiting_at waiting i).conn (text ++ piece) c.in_ok-feed.field-0 in
    let list = c.deref-one-items.result.now in
    let at_list : List Waiting → Written = λ waiting. (waiting_at waiting i).written in
    let piece : written_head c.deref.result.now (at_list list) ≡ one.head =
    ap (λ (text : List ℕ). written_head text (at_list list)) c.deref.ensures.value
    ∙ ap (λ (waiting : List Waiting). written_head group.text.items (at_list waiting)) same in
    let came = head_came (requests_in group) i one c.args.hub.now.connections old c.feed.new.self c.in_ok-feed.field-0
    c.requires.requests at.0 at.1 c.loop-one.invariant.1 (subst₂ IsResultByCode same piece c.in_ok-feed.ensures.fed) in
    (came.0 ∙ c.loop-one.invariant.0, came.1)
