-- Proves that the response to a sheet or a closing is right, case by case: accepted, refused by the rules, or a body
-- that could not be read.
use Rattle.std.proofs.Common.{◌≡◌, ◌≢◌, ℕ, Option, Some, None, Result, Ok, Err, IfOk, OnOk, refl, sym, ap}
use Rattle.std.proofs.Common.{◌∙◌, subst, true, false, true≢false}
use Rattle.std.specs.Prelude.{IfErr}
use Rattle.clock_terms.specs.Limits.{SetupFields}
use Rattle.clock_house.specs.Command as command
use Rattle.clock_closing.specs.declared.closed_round.ClosedRound.{ClosedRound}
use Rattle.clock_closing.specs.declared.fault.CloseFault.{CloseFault}
use Rattle.clock_house.specs.declared.fault.PutFault.{PutFault}
use Rattle.clock_house.specs.House.{HouseFields, IsFollowedBy, StandsForTheSame, put_fault_in, closing_in}
use Rattle.clock_api.specs.Replies.{Answer}
use Rattle.clock_views.specs.Refusals.{Shown, bare, shown_close, shown_put}
use Rattle.clock_bodies.specs.CloseBodies.{in_version}
use Rattle.clock_bodies.specs.declared.put_body.PutBody.{PutBody}
use Rattle.clock_bodies.specs.declared.close_body.CloseBody.{CloseBody}
use Rattle.clock_bodies.specs.declared.body.BodyFault.{BodyFault}
use Rattle.clock_bodies.specs.declared.body.BodyFault.TheVariants.{NoMemory}
use Rattle.clock_front.specs.Effects.{close_effect, effect_in, put_effect}
use Rattle.clock_front.specs.Requests.{Ask, put, close}
use Rattle.clock_front.specs.Outcomes.{Outcome, answer_of, body_code, close_command, close_outcome, close_to}
use Rattle.clock_front.specs.Outcomes.{command_of, outcome, put_outcome, refused}
use Rattle.clock_front.specs.Rooms.{NeedsRoom, asks_for_page}
use Rattle.clock_front.specs.declared.front.callers.Caller.{Caller}
use Rattle.clock_front.specs.declared.front.callers.Caller.TheVariants.{Operator, Bidder}
use Rattle.clock_front.specs.declared.front.replies.AnswerError.{AnswerError}
use Rattle.clock_front.specs.declared.front.response.Effect.TheVariants.{Nothing, Sheet, Closing}
use Rattle.clock_front.specs.declared.front.response.Response.{Response}
use Rattle.clock_front.specs.inside.Replies.{IsRightFor}
use Rattle.clock_front.specs.inside.Roomless.{without_room}
use Rattle.clock_front.proofs.ChangeLaws.{none_followed, other_followed}

-- A house that is not changed stands for the same commands.
pub same_stands : (house : HouseFields) → StandsForTheSame house house
same_stands house = record { setup = refl; stands = λ commands stood. stood }

-- The response to a request that is no command is right.
pub unchanged_right : (who : Caller) (ask : Ask) (house : HouseFields) (response : Response)
    → response.reply ≡ answer_of (outcome house who ask) → response.effect ≡ Nothing
    → command_of house.setup who ask ≡ command.other → IsRightFor who ask house house response
unchanged_right who ask house response reply nothing none = record {
  reply = reply;
  effect = nothing ∙ ap (effect_in house) (sym none);
  followed = none_followed _ house none;
  still = λ changed. same_stands house;
}

-- A request that asks for no change is no command.
no_command : (setup : SetupFields) (who : Caller) (ask : Ask) → asks_for_page who ask ≡ true
    → command_of setup who ask ≡ command.other
no_command setup Operator (close body) asks = absurd cc
no_command setup (Bidder bidder) (put body) asks = absurd cc
no_command setup who ask asks = refl

-- The response to a request that asks for no change is right.
pub page_right : (who : Caller) (ask : Ask) (house : HouseFields) (response : Response) → asks_for_page who ask ≡ true
    → response.reply ≡ answer_of (outcome house who ask) → response.effect ≡ Nothing
    → IsRightFor who ask house house response
page_right who ask house response asks reply nothing =
    unchanged_right who ask house response reply nothing (no_command house.setup who ask asks)

-- A request that asks for a change may be out of memory for any reason.
pub change_wants : (reported : Result Response AnswerError) (who : Caller) (ask : Ask) (right : Outcome)
    → asks_for_page who ask ≡ false → IfErr reported (NeedsRoom who ask right)
change_wants (Ok response) who ask right changes = tt
change_wants (Err why) who ask right changes = λ asks. absurd (true≢false (sym asks ∙ changes))

-- The reply of a right response.
pub right_reply : {N : Type 0} (reported : Result Response N) (old new : HouseFields) (who : Caller) (ask : Ask) → IfOk
    reported (IsRightFor who ask old new) → IfOk reported (λ response. response.reply ≡ answer_of (outcome old who ask))
right_reply (Ok response) old new who ask is = is.reply
right_reply (Err why) old new who ask is = tt

-- The response that refuses a request for this, and changes nothing.
abbrev pub IsRefusal : Shown → Response → Type 0
IsRefusal shown response = response ≡ record { reply = answer_of (refused shown); effect = Nothing }

-- ---- sheets

-- The response to a sheet that could be read, and became the sheet in force; below, to one that was refused.
pub sheet_put : (old new : HouseFields) (bidder : ℕ) (sent : Result PutBody BodyFault) (sheet : PutBody)
    (reply : Answer) → sent ≡ Ok sheet → reply ≡ answer_of (put_outcome sheet None) → put_fault_in old bidder
    sheet.round sheet.bids ≡ None → IsFollowedBy (command.put bidder sheet.round sheet.bids) old new
    → IsRightFor (Bidder bidder) (put sent) old new (record { reply = reply; effect = Sheet })
sheet_put old new bidder sent sheet reply is reported none followed =
    subst (λ body. IsRightFor (Bidder bidder) (put body) old new (record { reply = reply; effect = Sheet })) (sym is)
    (record {
      reply = reported ∙ ap (λ (first : Option PutFault). answer_of (put_outcome sheet first)) (sym none);
      effect = ap put_effect (sym none);
      followed = followed;
      still = λ (nothing : Sheet ≡ Nothing). cc;
    })

pub sheet_refused : {N : Type 0} (reported : Result Response N) (house : HouseFields) (bidder : ℕ)
    (sent : Result PutBody BodyFault) (sheet : PutBody) (fault : PutFault) → sent ≡ Ok sheet → (shown : Shown)
    → shown ≡ shown_put fault → IfOk reported (IsRefusal shown)
    → put_fault_in house bidder sheet.round sheet.bids ≡ Some fault
    → IsFollowedBy (command.put bidder sheet.round sheet.bids) house house
    → IfOk reported (IsRightFor (Bidder bidder) (put sent) house house)
sheet_refused (Ok response) house bidder sent sheet fault is shown named refusal faulty followed =
    subst (λ body. IsRightFor (Bidder bidder) (put body) house house response) (sym is)
    (record {
      reply = ap (λ (one : Response). one.reply) refusal ∙ ap (λ (s : Shown). answer_of (refused s)) named
          ∙ ap (λ (first : Option PutFault). answer_of (put_outcome sheet first)) (sym faulty);
      effect = ap (λ (one : Response). one.effect) refusal ∙ ap put_effect (sym faulty);
      followed = followed;
      still = λ changed. same_stands house;
    })
sheet_refused (Err why) house bidder sent sheet fault is shown named refusal faulty followed = tt

-- The response to a body that is not a sheet.
refused_body : (who : Caller) (ask : Ask) (house : HouseFields) (response : Response) (answer : Answer)
    → response ≡ record { reply = answer; effect = Nothing } → answer ≡ answer_of (outcome house who ask)
    → command_of house.setup who ask ≡ command.other → IsRightFor who ask house house response
refused_body who ask house response answer is right none = unchanged_right who ask house response
    (ap (λ (one : Response). one.reply) is ∙ right) (ap (λ (one : Response). one.effect) is) none

pub refusal_right : {N : Type 0} (reported : Result Response N) (who : Caller) (ask : Ask) (house : HouseFields)
    (shown : Shown) → IfOk reported (IsRefusal shown)
    → answer_of (refused shown) ≡ answer_of (outcome house who ask) → command_of house.setup who ask ≡ command.other
    → IfOk reported (IsRightFor who ask house house)
refusal_right (Ok response) who ask house shown is right none =
    refused_body who ask house response (answer_of (refused shown)) is right none
refusal_right (Err why) who ask house shown is right none = tt

pub refused_put : {N : Type 0} (reported : Result Response N) (house : HouseFields) (bidder : ℕ)
    (sent : Result PutBody BodyFault) (fault : BodyFault) → (fault ≢ NoMemory → sent ≡ Err fault)
    → OnOk reported (fault ≢ NoMemory) → IfOk reported
    (λ response. response ≡ record { reply = answer_of (refused (bare (body_code fault))); effect = Nothing })
    → IfOk reported (IsRightFor (Bidder bidder) (put sent) house house)
refused_put (Ok response) house bidder sent fault err known is =
    subst (λ body. IsRightFor (Bidder bidder) (put body) house house response) (sym (err known))
    (refused_body (Bidder bidder) (put (Err fault)) house response _ is refl refl)
refused_put (Err none) house bidder sent fault err known is = tt

-- ---- closings

-- The response to a closing is right, given its body as the version of the set-up reads it.
record IsClosingResponse (old new : HouseFields) (response : Response)
    (body : Result CloseBody BodyFault) : Type 0 where
  reply : response.reply ≡ answer_of (close_to (without_room old) body)
  effect : response.effect ≡ effect_in old (close_command body)
  followed : IsFollowedBy (close_command body) old new
  still : response.effect ≡ Nothing → StandsForTheSame old new

closing_response : (old new : HouseFields) (response : Response) (sent : Result CloseBody BodyFault) → IsClosingResponse
    old new response (in_version old.setup.version sent) → IsRightFor Operator (close sent) old new response
closing_response old new response sent is =
    record { reply = is.reply; effect = is.effect; followed = is.followed; still = is.still }

-- The response to a closing that could be read, and closed the round; below, to one that was refused.
pub closing_made : (old new : HouseFields) (sent : Result CloseBody BodyFault) (closing : CloseBody)
    (closed : ClosedRound) (reply : Answer) → in_version old.setup.version sent ≡ Ok closing
    → closing_in old closing.round closing.increments closing.ties ≡ Ok closed
    → reply ≡ answer_of (close_outcome closing.round (closing_in old closing.round closing.increments closing.ties))
    → IsFollowedBy (command.close closing.round closing.increments closing.ties) old new
    → IsRightFor Operator (close sent) old new (record { reply = reply; effect = Closing closing.round })
closing_made old new sent closing closed reply is made reported followed =
    closing_response old new (record { reply = reply; effect = Closing closing.round }) sent
    (subst (IsClosingResponse old new (record { reply = reply; effect = Closing closing.round })) (sym is)
    (record {
      reply = reported;
      effect = ap (close_effect closing.round) (sym made);
      followed = followed;
      still = λ (nothing : Closing closing.round ≡ Nothing). cc;
    }))

pub closing_refused : {N : Type 0} (reported : Result Response N) (old new : HouseFields)
    (sent : Result CloseBody BodyFault) (closing : CloseBody) (fault : CloseFault)
    → in_version old.setup.version sent ≡ Ok closing
    → closing_in old closing.round closing.increments closing.ties ≡ Err fault → (shown : Shown)
    → shown ≡ shown_close fault → IfOk reported (IsRefusal shown)
    → IsFollowedBy (command.close closing.round closing.increments closing.ties) old new → StandsForTheSame old new
    → IfOk reported (IsRightFor Operator (close sent) old new)
closing_refused (Ok response) old new sent closing fault is faulty shown named refusal followed still =
    closing_response old new response sent
    (subst (IsClosingResponse old new response) (sym is)
    (record {
      reply = ap (λ (one : Response). one.reply) refusal ∙ ap (λ (s : Shown). answer_of (refused s)) named
          ∙ ap (λ made. answer_of (close_outcome closing.round made)) (sym faulty);
      effect = ap (λ (one : Response). one.effect) refusal ∙ ap (close_effect closing.round) (sym faulty);
      followed = followed;
      still = λ changed. still;
    }))
closing_refused (Err why) old new sent closing fault is faulty shown named refusal followed still = tt

-- The response to a body that is not a closing.
pub refused_close : {N : Type 0} (reported : Result Response N) (house : HouseFields)
    (sent : Result CloseBody BodyFault) (fault : BodyFault) → (fault ≢ NoMemory
    → in_version house.setup.version sent ≡ Err fault) → OnOk reported (fault ≢ NoMemory) → IfOk reported
    (λ response. response ≡ record { reply = answer_of (refused (bare (body_code fault))); effect = Nothing })
    → IfOk reported (IsRightFor Operator (close sent) house house)
refused_close (Ok response) house sent fault err known is =
    closing_response house house response sent
    (subst (IsClosingResponse house house response) (sym (err known))
    (record {
      reply = ap (λ (one : Response). one.reply) is;
      effect = ap (λ (one : Response). one.effect) is;
      followed = other_followed house;
      still = λ changed. same_stands house;
    }))
refused_close (Err none) house sent fault err known is = tt
