-- By cases: a request that is answered at its head; one that waits; one that fills the group.
use Rattle.std.proofs.Common.{◌≡◌, ◌-◌, ◌++◌, List, [], ◌∷◌, Bool, Vec, ℕ, true, Result, Ok, Err, ap, ap₂, refl}
use Rattle.std.proofs.Common.{rules, subst, sym, ◌∙◌}
use Rattle.std.specs.Prelude.{if◌then◌else◌, is_ok}
use Rattle.std.specs.Result.{result_or}
use Rattle.std.specs.declared.alloc.Global.{Global}
use Rattle.std.proofs.lemmas.Result.{err_from_is_err_and}
use Rattle.clock_connections.specs.Connections.{IsConnected}
use Rattle.clock_front.specs.Hubs.{HubFields}
use Rattle.clock_scripts.specs.Pieces.{AwaitsBody, written_body, written_head, is_awaited, written_request}
use Rattle.clock_sim.specs.declared.rounds.Group.{Group}
use Rattle.clock_sim.specs.declared.rounds.Waiting.{Waiting}
use Rattle.clock_sim.specs.inside.Groups.{ClosesNoRound, ComesUnderWay, IsNext, requests_in, with_request, with_turn}
use Rattle.clock_sim.proofs.TurnLaws.{joined, refused_before, sent_alone, sent_full}
use Rattle.clock_sim.proofs.rounds.submit.Goals as goal

-- a result whose error was mapped, and that is `Ok`, was `Ok` before
was_ok : {T E D : Type 0} (result : Result T E) (other : D) (value : T) → result_or result (Err other) ≡ Ok value
    → is_ok result ≡ true
was_ok (Ok given) other value is = refl
was_ok (Err refused) other value is = absurd (cc)

-- a request that was pushed waits
pushed : (old new : HubFields) (group : Group) (waiting : Vec Waiting Global) (one : Waiting) (needs is : Bool)
    → IsNext old group one.written → AwaitsBody group.text.items one.written
    → needs ≡ is_awaited (one.written.head - one.written.body) → needs ≡ true
    → IsConnected old.connections new.connections one.conn → new.house ≡ old.house
    → waiting.items ≡ (if is then group.waiting.items ++ one ∷ [] else group.waiting.items) → is ≡ true
    → ComesUnderWay {T = Unit {0}} (with_turn old.house.setup group one.bidder one.round one.written) old new
    (record group { waiting = waiting }) (Ok tt)
pushed old new group waiting one needs is next awaits same some connected front more all =
    let longer : waiting.items ≡ group.waiting.items ++ one ∷ [] = more
    ∙ ap (λ (b : Bool). if b then group.waiting.items ++ one ∷ [] else group.waiting.items) all in
    joined tt old new group waiting one next (awaits ∙ sym same ∙ some) connected front longer

pub send_all-requires : goal.send_all-requires
send_all-requires g c = c.requires.next.under_way.waits

pub returns-in_err-send_all-clause-step : goal.returns-in_err-send_all-clause-step
returns-in_err-send_all-clause-step g c =
    let group = c.args.group.now in
    let reported = err_from_is_err_and c.from_residual.result c.from_residual.ensures.1 in
    rw (reported.1, reported.2) (refused_before group c.send_all.new.self c.args.bidder c.args.round (written_request
    group.text.items c.args.written) c.args.hub.now c.send_all.new.hub _ c.in_err-send_all.ensures.step)

pub returns-then-not-needs_body-clause-step : goal.returns-then-not-needs_body-clause-step
returns-then-not-needs_body-clause-step g c =
    let hub = c.args.hub.now in
    let group = c.args.group.now in
    let bidder = c.args.bidder in
    let round = c.args.round in
    let one = c.args.written in
    let next = c.requires.next in
    let last = c.send_all.new.self in
    let kept = ap (λ (text : Vec ℕ Global). text.items) c.in_ok-send_all.ensures.text in
    let whole = written_head c.deref.result.now one ++ written_body c.deref-then-not-needs_body.result.now one in
    let text : whole ≡ written_request group.text.items one =
    ap₂ (λ (first second : List ℕ). written_head first one ++ written_body second one) (c.deref.ensures.value ∙ kept)
    (c.deref-then-not-needs_body.ensures.value ∙ kept) in
    subst (λ (sent : List ℕ). ComesUnderWay
    (with_request hub.house.setup (requests_in group) bidder round sent) hub c.send.new.hub last c.send.result) text
    (sent_alone group last bidder round whole hub c.send_all.new.hub c.send.new.hub _ c.send.result next.under_way
    (subst ClosesNoRound (sym text) next.closes)
    c.in_ok-send_all.ensures.step c.in_ok-send_all.ensures.none c.send.ensures.step)

pub send_all-requires-then-len-ge-MOST_WAITING : goal.send_all-requires-then-len-ge-MOST_WAITING
send_all-requires-then-len-ge-MOST_WAITING g c =
    let one : Waiting =
    record { bidder = c.args.bidder; round = c.args.round; written = c.args.written; conn = c.in_ok-conn.conn } in
    let needs : c.needs_body.result ≡ true = search rules in
    let waits = pushed c.args.hub.now c.connect.new.self c.args.group.now c.push.new.self one c.needs_body.result _
    c.requires.next c.requires.awaits c.needs_body.ensures needs c.in_ok-conn.ensures.connected
    c.in_ok-conn.ensures.front c.push.ensures.items (was_ok c.push.result _ _ (sym c.in_ok-or.ensures)) in
    waits.under_way.waits

pub returns-then-len-ge-MOST_WAITING-clause-step : goal.returns-then-len-ge-MOST_WAITING-clause-step
returns-then-len-ge-MOST_WAITING-clause-step g c =
    let hub = c.args.hub.now in
    let group = c.args.group.now in
    let one : Waiting =
    record { bidder = c.args.bidder; round = c.args.round; written = c.args.written; conn = c.in_ok-conn.conn } in
    let full : Group = record { text = group.text; waiting = c.push.new.self } in
    let needs : c.needs_body.result ≡ true = search rules in
    let waits = pushed hub c.connect.new.self group c.push.new.self one c.needs_body.result _
    c.requires.next c.requires.awaits c.needs_body.ensures needs c.in_ok-conn.ensures.connected
    c.in_ok-conn.ensures.front c.push.ensures.items (was_ok c.push.result _ _ (sym c.in_ok-or.ensures)) in
    let sent = c.send_all-then-len-ge-MOST_WAITING in
    sent_full tt (with_turn hub.house.setup group one.bidder one.round one.written) hub c.connect.new.self sent.new.hub
    full sent.new.self sent.result waits sent.ensures.step sent.ensures.none

pub returns-clause-step : goal.returns-clause-step
returns-clause-step g c =
    let one : Waiting =
    record { bidder = c.args.bidder; round = c.args.round; written = c.args.written; conn = c.in_ok-conn.conn } in
    let needs : c.needs_body.result ≡ true = search rules in
    pushed c.args.hub.now c.connect.new.self c.args.group.now c.push.new.self one c.needs_body.result _
    c.requires.next c.requires.awaits c.needs_body.ensures needs c.in_ok-conn.ensures.connected
    c.in_ok-conn.ensures.front c.push.ensures.items (was_ok c.push.result _ _ (sym c.in_ok-or.ensures))
