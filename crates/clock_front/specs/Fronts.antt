-- What a front stands for, and what it replies. Lists of requests have the newest first.
--     commands_of setup texts      the commands that requests are
--     house_after setup commands      the auction after these commands, as a house shows it
--     reply setup texts text      the reply to a request after the requests `texts`
--     StandsForTexts texts house      the house stands for the commands of these requests
--     right_answer house text      the reply to a request, by the current state of the house
--     IsCutShort reply      the reply to an incomplete request, or the out-of-memory reply
--     IsOutOfMemoryReply text reply      the out-of-memory reply, to a request that needs memory
use Rattle.std.specs.Prelude.{◌≡◌, ◌⊎◌, ℕ, List, map}
use Rattle.clock_terms.specs.Limits.{SetupFields}
use Rattle.clock_house.specs.Command.{Command}
use Rattle.clock_house.specs.History.{history, sheet_in_force, for_each_bidder}
use Rattle.clock_house.specs.House.{HouseFields, StandsFor}
use Rattle.clock_api.specs.declared.code.Code.{Code}
use Rattle.clock_http.specs.Framing.{framing, refusal}
use Rattle.clock_api.specs.Replies.{Answer}
use Rattle.clock_front.specs.FixedReplies.{no_memory, cut_short}
use Rattle.clock_front.specs.Requests.{request_of}
use Rattle.clock_front.specs.Callers.{caller}
use Rattle.clock_front.specs.Outcomes.{answer_of, outcome, command_of}

-- The command that a request is: a sheet of its sender, a closing, or neither.
abbrev pub text_command : SetupFields → List ℕ → Command
text_command setup text =
    command_of setup (caller setup (request_of text).token) (request_of text).ask

abbrev pub commands_of : SetupFields → List (List ℕ) → List Command
commands_of setup texts = map (text_command setup) texts

abbrev pub house_after : SetupFields → List Command → HouseFields
house_after setup commands = record {
  setup = setup;
  closed = (history setup commands).closed;
  sheets = for_each_bidder setup (sheet_in_force setup (history setup commands));
  spare = 0;
}

-- The one right reply, computed from the auction so far, the request's token, and what it asks for.
abbrev pub reply : SetupFields → List (List ℕ) → List ℕ → Answer
reply setup texts text = answer_of (outcome (house_after setup (commands_of setup texts))
    (caller setup (request_of text).token) (request_of text).ask)

-- All that the house shows follows from these requests: it stands for their commands.
abbrev pub StandsForTexts : List (List ℕ) → HouseFields → Type 0
StandsForTexts texts house = StandsFor (commands_of house.setup texts) house

-- The right reply to a request, by the current state of the house.
abbrev pub right_answer : HouseFields → List ℕ → Answer
right_answer house text =
    answer_of (outcome house (caller house.setup (request_of text).token) (request_of text).ask)

-- The reply to a request that was incomplete when its input ended: `cut_short`, or out of memory.
abbrev pub IsCutShort : Answer → Type 0
IsCutShort answer = (answer ≡ cut_short) ⊎ (answer ≡ no_memory)

-- Answered out of memory. A request that is refused for its head or its length needs no memory.
pub record IsOutOfMemoryReply (text : List ℕ) (answer : Answer) : Type 0 where
  pub is : answer ≡ no_memory
  pub needs : (code : Code) → framing text ≡ refusal code → ⊥
