-- What the private functions that build replies promise.
--     IsPageIn answer room result      this reply, or the allocation of `room` bytes failed
--     IsReplyOrFailure house who ask result      the right reply to a sender, or its page's
--         allocation failed
--     IsReplyWithoutChange who ask house result      the same, if the sender asks for no change
--     IsRightFor who ask old new response      the right reply and effect, and the house did it
use Rattle.std.specs.Prelude.{◌≡◌, ℕ, true, Result, Ok, Err}
use Rattle.clock_house.specs.House.{HouseFields, IsFollowedBy, StandsForTheSame}
use Rattle.clock_api.specs.Replies.{Answer}
use Rattle.clock_front.specs.Effects.{effect_in}
use Rattle.clock_front.specs.Requests.{Ask}
use Rattle.clock_front.specs.Outcomes.{answer_of, command_of, outcome}
use Rattle.clock_front.specs.Rooms.{asks_for_page, reply_room}
use Rattle.clock_front.specs.declared.front.callers.Caller.{Caller}
use Rattle.clock_front.specs.declared.front.response.Effect.TheVariants.{Nothing}
use Rattle.clock_front.specs.declared.front.response.Response.{Response}

-- The result is this reply, or the allocation of `room` bytes for its page failed.
abbrev pub IsPageIn : Answer → ℕ → Result Answer ℕ → Type 0
IsPageIn answer room (Ok reply) = reply ≡ answer
IsPageIn answer room (Err wanted) = wanted ≡ room

-- The result is the right reply to a sender who asks for this, or the allocation for its page
-- failed.
abbrev pub IsReplyOrFailure : HouseFields → Caller → Ask → Result Answer ℕ → Type 0
IsReplyOrFailure house who ask result =
    IsPageIn (answer_of (outcome house who ask)) (reply_room ask (outcome house who ask)) result

-- If the sender asks for no change, the result is the right reply, or the allocation for its page
-- failed.
abbrev pub IsReplyWithoutChange : Caller → Ask → HouseFields → Result Answer ℕ → Type 0
IsReplyWithoutChange who ask house result =
    asks_for_page who ask ≡ true → IsReplyOrFailure house who ask result

-- The reply and the effect follow from the old house. The new house stands for one more command; if
-- the effect is `Nothing`, it also stands for the commands of the old one.
pub record IsRightFor (who : Caller) (ask : Ask) (old new : HouseFields)
    (response : Response) : Type 0 where
  pub reply : response.reply ≡ answer_of (outcome old who ask)
  pub effect : response.effect ≡ effect_in old (command_of old.setup who ask)
  pub followed : IsFollowedBy (command_of old.setup who ask) old new
  pub still : response.effect ≡ Nothing → StandsForTheSame old new
