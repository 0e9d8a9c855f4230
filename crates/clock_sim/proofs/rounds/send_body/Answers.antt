-- By cases: the body completes the request, or the input ends after it.
use Rattle.std.proofs.Common.{◌++◌, subst}
use Rattle.clock_front.specs.Hubs.{IsAnswered, IsFed}
use Rattle.clock_front.specs.declared.hub.Fed.{Fed}
use Rattle.clock_front.proofs.AnswerLaws.{after_texts}
use Rattle.clock_sim.proofs.SendLaws.{ended_after}
use Rattle.clock_sim.proofs.StepLaws.{sent}
use Rattle.clock_sim.proofs.rounds.send_body.Goals.{in-Reply, in-More+in_ok-reply-in-More}
use Rattle.clock_sim.proofs.rounds.send_body.Goals as goal

pub returns-clause-step : goal.returns-clause-step
returns-clause-step g c = λ head is.
    let old = c.args.hub.now in
    let mid = c.feed.new.self in
    let text = head ++ c.args.body.now in
    let IsFedTo : Fed → Type 0 = λ fed. IsFed old mid c.args.conn text fed in
    let fed : IsFedTo c.in_ok-reply.field-0 = c.in_ok-reply.ensures.fed head is in
    let answered : IsAnswered old c.match-branch-2.hub c.args.conn text c.match-branch-2.reply =
    elim c.match-branch-2.branch [
      | in-Reply w ↦
          let replied = subst IsFedTo w.in-Reply.is fed in
          rw (w.hub-is, w.reply-is) replied.1
      | in-More+in_ok-reply-in-More w ↦
          let more = subst IsFedTo w.in-More.is fed in
          rw (w.hub-is, w.reply-is) (ended_after old mid w.finish.new.self c.args.conn text w.in_ok-reply-in-More.reply
          more (w.in_ok-reply-in-More.ensures.answered text more.1.stands))
    ] in
    sent text c.match-branch-2.reply c.code.result old.house c.match-branch-2.hub.house c.args.sender c.args.round
    c.reported.result (after_texts text c.match-branch-2.reply old.house c.match-branch-2.hub.house answered.answered)
    answered.setup c.code.ensures c.reported.ensures.step
