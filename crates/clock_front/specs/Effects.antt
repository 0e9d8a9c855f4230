-- What a request changes in the auction, and what a front returns for it.
--     effect_in house command      what a command changes in the current state of the house
--     effect setup texts text      what a request changes after the requests `texts`
--     IsRightResponse text old new response      the right reply and effect
--     RespondsTo text response old new      that, or the out-of-memory reply and no change
use Rattle.std.specs.Prelude.{◌≡◌, ◌⊎◌, ℕ, List, Option, Some, None, Result, Ok, Err}
use Rattle.clock_terms.specs.Limits.{SetupFields}
use Rattle.clock_closing.specs.declared.closed_round.ClosedRound.{ClosedRound}
use Rattle.clock_closing.specs.declared.fault.CloseFault.{CloseFault}
use Rattle.clock_house.specs.Command.{Command, put, close, other}
use Rattle.clock_house.specs.House.{HouseFields, StandsForTheSame, closing_in, put_fault_in}
use Rattle.clock_house.specs.declared.fault.PutFault.{PutFault}
use Rattle.clock_front.specs.Answered.{IsRightAnswer}
use Rattle.clock_front.specs.Fronts.{IsOutOfMemoryReply, commands_of, house_after, text_command}
use Rattle.clock_front.specs.declared.front.response.Effect.{Effect}
use Rattle.clock_front.specs.declared.front.response.Effect.TheVariants.{Nothing, Sheet, Closing}
use Rattle.clock_front.specs.declared.front.response.Response.{Response}

-- A sheet without a fault becomes the bidder's sheet in force. A refused one changes nothing.
abbrev pub put_effect : Option PutFault → Effect
put_effect None = Sheet
put_effect (Some fault) = Nothing

-- A closing without a fault closes the round that it names. A closing with a fault changes nothing.
abbrev pub close_effect : ℕ → Result ClosedRound CloseFault → Effect
close_effect round (Ok closed) = Closing round
close_effect round (Err fault) = Nothing

-- What a command changes now. Only sheets and closings change anything.
abbrev pub effect_in : HouseFields → Command → Effect
effect_in house (put bidder round bids) = put_effect (put_fault_in house bidder round bids)
effect_in house (close round increments ties) =
    close_effect round (closing_in house round increments ties)
effect_in house other = Nothing

-- What a request changes after other requests, listed newest first.
abbrev pub effect : SetupFields → List (List ℕ) → List ℕ → Effect
effect setup texts text =
    effect_in (house_after setup (commands_of setup texts)) (text_command setup text)

-- The reply is right, and the effect follows from the old house. If the effect is `Nothing`, the
-- new house also stands for the commands of the old one.
pub record IsRightResponse (text : List ℕ) (old new : HouseFields)
    (response : Response) : Type 0 where
  pub answer : IsRightAnswer text response.reply old new
  pub effect : response.effect ≡ effect_in old (text_command old.setup text)
  pub still : response.effect ≡ Nothing → StandsForTheSame old new

-- The right response; or out of memory, and the house stands for the same commands as before.
abbrev pub RespondsTo : List ℕ → Response → HouseFields → HouseFields → Type 0
RespondsTo text response old new = IsRightResponse text old new response ⊎ (IsOutOfMemoryReply text
    response.reply × (response.effect ≡ Nothing) × StandsForTheSame old new)
