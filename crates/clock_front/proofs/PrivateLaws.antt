-- Proves that a right reply in a house is right after every list of requests that the house stands for, and so private
-- and public; and that the size of a failed allocation is private. Both follow from the right outcome.
use Rattle.std.proofs.Common.{◌≡◌, ℕ, List, Result, Ok, Err, ◌∙◌, ap, subst}
use Rattle.std.specs.Prelude.{IfOk, IfErr}
use Rattle.clock_terms.specs.Limits.{IsSetup}
use Rattle.clock_house.specs.House.{HouseFields}
use Rattle.clock_http.specs.Framing.{framing, incomplete}
use Rattle.clock_front.specs.Callers.{caller}
use Rattle.clock_front.specs.Effects.{IsRightResponse}
use Rattle.clock_front.specs.Fronts.{commands_of}
use Rattle.clock_front.specs.Outcomes.{outcome, answer_of}
use Rattle.clock_front.specs.Rooms.{FailsByPrivateAllocation, FailsByAllocation, NeedsRoom, asks_for_page, refusal_room}
use Rattle.clock_front.specs.Rooms.{reply_room}
use Rattle.clock_front.specs.declared.front.replies.AnswerError.{AnswerError}
use Rattle.clock_front.specs.declared.front.replies.AnswerError.TheVariants.{Room}
use Rattle.clock_front.specs.declared.front.response.Response.{Response}
use Rattle.clock_front.specs.Requests.{request_of}
use Rattle.clock_front.specs.inside.Replies.{IsRightFor}
use Rattle.clock_front.proofs.FrontLaws.{ask_by, outcome_after}
use Rattle.clock_front.proofs.RunLaws.{right}
use Rattle.clock_front.proofs.CallerLaws.{caller_own}
use Rattle.clock_front.proofs.TextViews.{reported_from_view}

-- The right response to a sender and what it asks for is the right response to the request.
pub right_response : (text : List ℕ) (old new : HouseFields) (response : Response) → IsSetup old.setup
    → IsRightFor (caller old.setup (request_of text).token) (request_of text).ask old new response
    → IsRightResponse text old new response
right_response text old new response limits right_for = record {
  answer = record {
    is = right_for.reply;
    followed = right_for.followed;
    after = λ texts stands. right old.setup limits texts text response.reply (right_for.reply ∙ ap answer_of
        (outcome_after old (commands_of old.setup texts) (caller old.setup (request_of text).token)
        (request_of text).ask stands));
  };
  effect = right_for.effect;
  still = right_for.still;
}

pub if_right : {N : Type 0} (reported : Result Response N) (text : List ℕ) (old new : HouseFields) → IsSetup old.setup
    → IfOk reported (IsRightFor (caller old.setup (request_of text).token) (request_of text).ask old new)
    → IfOk reported (IsRightResponse text old new)
if_right (Ok response) text old new limits right_for = right_response text old new response limits right_for
if_right (Err e) text old new limits right_for = tt

-- ---- what running out of memory reveals

pub want_as : {T : Type 0} (reported : Result T AnswerError) (P Q : AnswerError → Type 0)
    → ((why : AnswerError) → P why → Q why) → IfErr reported P → IfErr reported Q
want_as (Ok done) P Q goes is = tt
want_as (Err why) P Q goes is = goes why is

-- The failed allocation for the refusal of a request that was incomplete when its input ended.
pub cut_short_want : (house : HouseFields) (text : List ℕ) (why : AnswerError) → incomplete ≡ framing text
    → why ≡ Room refusal_room → FailsByAllocation text house why
cut_short_want house text why is wants =
    let who = caller house.setup (request_of text).token in
    subst (λ ask. NeedsRoom who ask (outcome house who ask) why) (ask_by text incomplete is) (λ reading. wants)

-- The size of the allocation for a bidder's own request follows from its view.
private_want : (house : HouseFields) (text : List ℕ) (why : AnswerError) → IsSetup house.setup
    → FailsByAllocation text house why → FailsByPrivateAllocation text house why
private_want house text why limits want = λ texts bidder stands lt own asks. want (ap (λ who. asks_for_page who
    (request_of text).ask) (caller_own house.setup limits.tokens bidder lt (request_of text).token own) ∙ asks)
    ∙ ap (λ reported. Room (reply_room (request_of text).ask reported))
    (outcome_after house (commands_of house.setup texts) (caller house.setup (request_of text).token)
    (request_of text).ask stands ∙ reported_from_view house.setup bidder texts text limits.tokens lt own)

pub if_private_want : {T : Type 0} (reported : Result T AnswerError) (house : HouseFields) (text : List ℕ) → IsSetup
    house.setup → IfErr reported (FailsByAllocation text house) → IfErr reported (FailsByPrivateAllocation text house)
if_private_want reported house text limits = want_as reported (FailsByAllocation text house)
    (FailsByPrivateAllocation text house) (λ why want. private_want house text why limits want)
