-- Proves the response to a request, by its framing: incomplete, refused, or whole.
use Rattle.std.proofs.Common.{◌≡◌, ap, refl, sym, subst, ◌∙◌}
use Rattle.std.specs.Prelude.{IfErr, IfOk}
use Rattle.clock_terms.specs.Limits.{IsSetup}
use Rattle.clock_house.specs.House.{HouseFields}
use Rattle.clock_views.specs.Refusals.{Shown}
use Rattle.clock_api.specs.declared.code.Code.TheVariants.{CutShort}
use Rattle.clock_http.specs.Framing.{incomplete, refusal}
use Rattle.clock_http.specs.Shown.{shown_framing, shown_head}
use Rattle.clock_front.specs.Callers.{caller}
use Rattle.clock_front.specs.Effects.{IsRightResponse}
use Rattle.clock_front.specs.Outcomes.{answer_of, outcome, refused}
use Rattle.clock_front.specs.Requests.{request_of}
use Rattle.clock_front.specs.declared.front.replies.AnswerError.TheVariants.{Room}
use Rattle.clock_front.specs.declared.front.response.Response.{Response}
use Rattle.clock_front.specs.Rooms.{FailsByAllocation, NeedsRoom, refusal_room}
use Rattle.clock_front.specs.inside.Replies.{IsRightFor}
use Rattle.clock_front.proofs.PrivateLaws.{cut_short_want, if_right, if_private_want, right_response, want_as}
use Rattle.clock_front.proofs.ReplyLaws.{refusal_right, unchanged_right}
use Rattle.clock_front.proofs.FrontLaws.{refused_fixed, away_reported, away_command, of_text}
use Rattle.clock_front.proofs.front.Front.try_answer.Goals as goal

pub fixed_reply-requires : goal.fixed_reply-requires
fixed_reply-requires g c =
    refused_fixed c.requires.0 c.in-Refused.code (sym (ap shown_framing (sym c.in-Refused.is) ∙ c.requires.1))

pub returns-in-NeedMore-clause-response : goal.returns-in-NeedMore-clause-response
returns-in-NeedMore-clause-response g c = λ text is.
    let house = c.args.self.now in
    let who = caller house.setup (request_of text).token in
    let limits = subst (λ (h : HouseFields). IsSetup h.setup) c.self.view_is c.law_of_house.ensures.limits in
    let framed = ap shown_framing (sym c.in-NeedMore.is) ∙ is in
    if_right c.refusal_response.result text house house limits (refusal_right c.refusal_response.result who
    (request_of text).ask house c.bare.result c.refusal_response.ensures.response (ap (λ (shown : Shown).
    answer_of (refused shown)) c.bare.ensures ∙ away_reported house who text incomplete CutShort framed refl)
    (away_command house.setup who text incomplete CutShort framed refl))

pub returns-in-NeedMore-clause-wanted : goal.returns-in-NeedMore-clause-wanted
returns-in-NeedMore-clause-wanted g c = λ text is.
    let house = c.args.self.now in
    want_as c.refusal_response.result (λ why. why ≡ Room refusal_room) (FailsByAllocation text house)
    (λ why wants. cut_short_want house text why (ap shown_framing (sym c.in-NeedMore.is) ∙ is) wants)
    c.refusal_response.ensures.wanted

pub returns-in-NeedMore-clause-wanted_privately : goal.returns-in-NeedMore-clause-wanted_privately
returns-in-NeedMore-clause-wanted_privately g c = λ text is.
    let limits = subst (λ (h : HouseFields). IsSetup h.setup) c.self.view_is c.law_of_house.ensures.limits in
    if_private_want c.refusal_response.result c.args.self.now text limits
    (returns-in-NeedMore-clause-wanted g c text is)

pub returns-in-Refused-clause-response : goal.returns-in-Refused-clause-response
returns-in-Refused-clause-response g c = λ text is.
    let house = c.args.self.now in
    let who = caller house.setup (request_of text).token in
    let code = c.in-Refused.code in
    let limits = subst (λ (h : HouseFields). IsSetup h.setup) c.self.view_is c.law_of_house.ensures.limits in
    let framed = ap shown_framing (sym c.in-Refused.is) ∙ is in
    right_response text house house c.unchanged.result limits
    (unchanged_right who (request_of text).ask house c.unchanged.result
    (ap (λ (response : Response). response.reply) c.unchanged.ensures ∙ c.fixed_reply.ensures
    ∙ away_reported house who text (refusal code) code framed refl)
    (ap (λ (response : Response). response.effect) c.unchanged.ensures)
    (away_command house.setup who text (refusal code) code framed refl))

pub answer_request-requires-clause-known : goal.answer_request-requires-clause-known
answer_request-requires-clause-known g c = c.caller_of-caller.ensures.known c.self.inside.house.setup c.self.invariant.0

pub returns-in-Whole-clause-still : goal.returns-in-Whole-clause-still
returns-in-Whole-clause-still g c = rw (← c.self.view_is) c.answer_request.ensures.still

pub returns-in-Whole-clause-response : goal.returns-in-Whole-clause-response
returns-in-Whole-clause-response g c = λ text is.
    let house = c.self.inside.house in
    let reported = c.answer_request.result in
    let new = c.answer_request.new.house in
    subst (λ (h : HouseFields). IfOk reported (IsRightResponse text h new)) c.self.view_is
    (if_right reported text house new c.law_of_house.ensures.limits (of_text house.setup text
    (λ who ask. IfOk reported (IsRightFor who ask house new)) _ _ (shown_head c.in-Whole.head) c.in-Whole.body.now
    (c.caller_of-caller.ensures.shown house.setup c.self.invariant.0) refl
    (ap shown_framing (sym c.in-Whole.is) ∙ is) c.answer_request.ensures.done))

pub returns-in-Whole-clause-wanted : goal.returns-in-Whole-clause-wanted
returns-in-Whole-clause-wanted g c = λ text is.
    let house = c.self.inside.house in
    let reported = c.answer_request.result in
    subst (λ (h : HouseFields). IfErr reported (FailsByAllocation text h)) c.self.view_is
    (of_text house.setup text (λ who ask. IfErr reported (NeedsRoom who ask (outcome house who ask))) _ _
    (shown_head c.in-Whole.head) c.in-Whole.body.now (c.caller_of-caller.ensures.shown house.setup c.self.invariant.0)
    refl (ap shown_framing (sym c.in-Whole.is) ∙ is) c.answer_request.ensures.wanted)

pub returns-in-Whole-clause-wanted_privately : goal.returns-in-Whole-clause-wanted_privately
returns-in-Whole-clause-wanted_privately g c = λ text is.
    let limits = subst (λ (h : HouseFields). IsSetup h.setup) c.self.view_is c.law_of_house.ensures.limits in
    if_private_want c.answer_request.result c.args.self.now text limits (returns-in-Whole-clause-wanted g c text is)
