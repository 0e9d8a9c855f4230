-- A request that is answered at its head has the reply of its whole text.
use Rattle.std.proofs.Common.{◌≡◌, ◌++◌, ℕ, List, [], Some, ap, subst, ◌∙◌}
use Rattle.clock_house.specs.House.{HouseFields}
use Rattle.clock_front.specs.inside.Answered.{AnswersAfter}
use Rattle.clock_connections.specs.Connections.{open_text}
use Rattle.clock_front.specs.Hubs.{IsFed}
use Rattle.clock_front.specs.declared.hub.Fed.{Fed}
use Rattle.clock_front.specs.declared.hub.Fed.TheVariants.{Reply}
use Rattle.clock_front.proofs.AnswerLaws.{after_texts}
use Rattle.clock_sim.proofs.SendLaws.{answered_early}
use Rattle.clock_sim.proofs.StepLaws.{sent}
use Rattle.clock_sim.proofs.rounds.send.Goals as goal

pub returns-in-Reply-clause-step : goal.returns-in-Reply-clause-step
returns-in-Reply-clause-step g c =
    let head = c.args.head.now in
    let body = c.args.body.now in
    let mid = c.connect.new.self in
    let new = c.feed.new.self in
    let IsFedTo : Fed → Type 0 = λ fed. (text : List ℕ) → open_text mid.connections c.in_ok-conn.conn ≡ Some text
    → IsFed mid new c.in_ok-conn.conn (text ++ head) fed in
    let replied : IsFedTo (Reply c.in-Reply.reply) = subst IsFedTo c.in-Reply.is c.in_ok-feed.ensures.fed in
    let fed = replied [] c.in_ok-conn.ensures.connected.stands in
    let whole = answered_early c.law_decided_once.ensures c.law_one_head.ensures head body c.in-Reply.reply mid.house
    new.house fed.0 (after_texts head c.in-Reply.reply mid.house new.house fed.1.answered) in
    sent (head ++ body) c.in-Reply.reply c.code.result c.args.hub.now.house new.house c.args.sender c.args.round
    c.reported.result (subst (λ (house : HouseFields). AnswersAfter (head ++ body) c.in-Reply.reply house new.house)
    c.in_ok-conn.ensures.front whole) (fed.1.setup
    ∙ ap (λ (house : HouseFields). house.setup) c.in_ok-conn.ensures.front) c.code.ensures c.reported.ensures.step
