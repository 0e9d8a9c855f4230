-- Proves the response to a request, by the change that it asks for: a sheet, a closing, or none.
use Rattle.std.proofs.Common.{◌≡◌, false, Option, Ok, Err, length, refl, ap, subst, ◌∙◌}
use Rattle.std.specs.Prelude.{IfOk}
use Rattle.clock_api.specs.Routes.{page_of}
use Rattle.clock_http.specs.Shown.{shown_head}
use Rattle.clock_api.specs.declared.routes.Page.{Page}
use Rattle.clock_front.specs.Outcomes.{outcome}
use Rattle.clock_front.specs.Requests.{ask_by_route}
use Rattle.clock_front.specs.Rooms.{asks_for_page}
use Rattle.clock_front.specs.declared.front.answering.Change.TheVariants.{Nothing, Sheet, Closing}
use Rattle.clock_front.specs.declared.front.replies.AnswerError.TheVariants.{Room}
use Rattle.clock_front.specs.declared.front.response.Response.{Response}
use Rattle.clock_front.specs.inside.Callers.{IsKnown}
use Rattle.clock_front.specs.inside.Replies.{IsReplyWithoutChange, IsRightFor}
use Rattle.clock_front.proofs.AskLaws.{as_asked, changes}
use Rattle.clock_front.proofs.ReplyLaws.{change_wants, page_right}
use Rattle.clock_front.proofs.front.answering.answer_request.Goals as goal

pub put_sheet-requires : goal.put_sheet-requires
put_sheet-requires g c =
    let head = shown_head c.args.head.now in
    let is = changes (page_of c.args.head.now.path.now) c.page_of-page.result c.args.caller head c.args.body.now
    c.change_of.result (Sheet c.in-Sheet.bidder) c.page_of-page.ensures c.change_of.ensures c.in-Sheet.is in
    subst (IsKnown (length c.args.house.now.setup.bidders)) is.0 c.requires.known

pub returns-in-Sheet-clause-done : goal.returns-in-Sheet-clause-done
returns-in-Sheet-clause-done g c =
    let head = shown_head c.args.head.now in
    let is = changes (page_of c.args.head.now.path.now) c.page_of-page.result c.args.caller head c.args.body.now
    c.change_of.result (Sheet c.in-Sheet.bidder) c.page_of-page.ensures c.change_of.ensures c.in-Sheet.is in
    as_asked (λ who ask. IfOk c.put_sheet.result (IsRightFor who ask c.args.house.now c.put_sheet.new.house)) _ _ _ _
    is.0 is.1 c.put_sheet.ensures.done

pub returns-in-Sheet-clause-wanted : goal.returns-in-Sheet-clause-wanted
returns-in-Sheet-clause-wanted g c =
    let head = shown_head c.args.head.now in
    let ask = ask_by_route (page_of c.args.head.now.path.now) head c.args.body.now in
    let is = changes (page_of c.args.head.now.path.now) c.page_of-page.result c.args.caller head c.args.body.now
    c.change_of.result (Sheet c.in-Sheet.bidder) c.page_of-page.ensures c.change_of.ensures c.in-Sheet.is in
    change_wants c.put_sheet.result c.args.caller ask (outcome c.args.house.now c.args.caller ask)
    (as_asked (λ who ask. asks_for_page who ask ≡ false) _ _ _ _ is.0 is.1 refl)

pub returns-in-Sheet-clause-still : goal.returns-in-Sheet-clause-still
returns-in-Sheet-clause-still g c = c.put_sheet.ensures.still

pub returns-in-Closing-clause-done : goal.returns-in-Closing-clause-done
returns-in-Closing-clause-done g c =
    let head = shown_head c.args.head.now in
    let is = changes (page_of c.args.head.now.path.now) c.page_of-page.result c.args.caller head c.args.body.now
    c.change_of.result Closing c.page_of-page.ensures c.change_of.ensures c.in-Closing.is in
    as_asked (λ who ask. IfOk c.close_round.result (IsRightFor who ask c.args.house.now c.close_round.new.house))
    _ _ _ _ is.0 is.1 c.close_round.ensures.done

pub returns-in-Closing-clause-wanted : goal.returns-in-Closing-clause-wanted
returns-in-Closing-clause-wanted g c =
    let head = shown_head c.args.head.now in
    let ask = ask_by_route (page_of c.args.head.now.path.now) head c.args.body.now in
    let is = changes (page_of c.args.head.now.path.now) c.page_of-page.result c.args.caller head c.args.body.now
    c.change_of.result Closing c.page_of-page.ensures c.change_of.ensures c.in-Closing.is in
    change_wants c.close_round.result c.args.caller ask (outcome c.args.house.now c.args.caller ask)
    (as_asked (λ who ask. asks_for_page who ask ≡ false) _ _ _ _ is.0 is.1 refl)

pub returns-in-Closing-clause-still : goal.returns-in-Closing-clause-still
returns-in-Closing-clause-still g c = c.close_round.ensures.still

-- A request that asks for no change is the command that changes nothing.
pub returns-in-Ok-clause-done : goal.returns-in-Ok-clause-done
returns-in-Ok-clause-done g c =
    let house = c.args.house.now in
    let head = shown_head c.args.head.now in
    let named = page_of c.args.head.now.path.now in
    let asks = changes named c.page_of-page.result c.args.caller head c.args.body.now c.change_of.result Nothing
    c.page_of-page.ensures c.change_of.ensures c.in-Nothing.is in
    page_right c.args.caller (ask_by_route named head c.args.body.now) house c.unchanged.result asks
    (ap (λ (response : Response). response.reply) c.unchanged.ensures
    ∙ subst (λ (n : Option Page). IsReplyWithoutChange c.args.caller (ask_by_route n head c.args.body.now) house
    (Ok c.in-Ok.reply)) c.page_of-page.ensures (c.in-Ok.ensures c.args.body.now) asks)
    (ap (λ (response : Response). response.effect) c.unchanged.ensures)

pub returns-in-Err-clause-wanted : goal.returns-in-Err-clause-wanted
returns-in-Err-clause-wanted g c = λ asks.
    ap Room (subst (λ (n : Option Page). IsReplyWithoutChange c.args.caller (ask_by_route n (shown_head c.args.head.now)
    c.args.body.now) c.args.house.now (Err c.in-Err.room)) c.page_of-page.ensures
    (c.in-Err.ensures c.args.body.now) asks)
