-- Proves the response to a sheet, case by case with the laws of ReplyLaws: no sheet in the body, accepted, or refused.
use Rattle.std.proofs.Common.{ℕ, length, ap, subst, ◌∙◌, rules}
use Rattle.clock_house.specs.Command.{put}
use Rattle.clock_house.specs.House.{IsFollowedBy}
use Rattle.clock_house.specs.Prepared.{PreparedSheet}
use Rattle.clock_bodies.specs.Bodies.{put_body}
use Rattle.clock_views.specs.BidderPages.{accepted_value}
use Rattle.clock_front.specs.Outcomes.{answer_of, done}
use Rattle.clock_front.proofs.ReplyLaws.{refused_put, same_stands, sheet_put, sheet_refused}
use Rattle.clock_front.proofs.front.answering.put_sheet.Goals as goal

pub returns-in-Err-clause-done : goal.returns-in-Err-clause-done
returns-in-Err-clause-done g c = refused_put c.refused_body.result c.args.house.now c.args.bidder (put_body
    c.args.body.now) c.in-Err.fault c.in-Err.ensures.err c.refused_body.ensures.known c.refused_body.ensures.response

pub returns-in-Ok-accepted-clause-done : goal.returns-in-Ok-accepted-clause-done
returns-in-Ok-accepted-clause-done g c =
    let sheet = c.in-Ok.sheet in
    sheet_put c.args.house.now c.commit_put.new.self c.args.bidder (put_body c.args.body.now) sheet
    c.in-Ok-accepted.reply c.in-Ok.ensures.ok (c.in-Ok-accepted.ensures ∙ ap (λ (count : ℕ). answer_of
    (done (accepted_value sheet.round count))) (ap length c.as_slice.ensures)) c.in-Ok-prepare_sheet.ensures.answer
    (subst (λ (made : PreparedSheet). IsFollowedBy (put made.bidder made.round made.bids) c.args.house.now
    c.commit_put.new.self) c.in-Ok-prepare_sheet.ensures.asked c.commit_put.ensures.followed)

-- No memory for the page: nothing has changed.
pub returns-in-Err-accepted-clause-still : goal.returns-in-Err-accepted-clause-still
returns-in-Err-accepted-clause-still g c = same_stands c.args.house.now

pub returns-in-Err-prepare_sheet-clause-done : goal.returns-in-Err-prepare_sheet-clause-done
returns-in-Err-prepare_sheet-clause-done g c =
    let judged = c.in-Err-prepare_sheet.ensures in
    sheet_refused c.refusal_response.result c.args.house.now c.args.bidder (put_body c.args.body.now) c.in-Ok.sheet
    c.in-Err-prepare_sheet.fault c.in-Ok.ensures.ok c.from.result c.from.ensures c.refusal_response.ensures.response
    (judged.answer (search rules)) (judged.followed (search rules))
