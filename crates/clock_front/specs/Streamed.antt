-- How a stream is served: its request is read and answered, and the reply is written.
--     IsLeftUnread reading old new      no request could be read, and the front is unchanged
--     IsAnswerTo reading answer old new      the reply to what was read, or out of memory
--     IsServed reading writing old new result      how a stream was served, by the result
--     HasServed most texts house      the front stands for these requests and at most `most` more
use Rattle.std.specs.Prelude.{◌≡◌, ◌≤◌, ◌⊎◌, ◌++◌, ℕ, List, length, Result, Ok, Err}
use Rattle.clock_house.specs.House.{HouseFields}
use Rattle.clock_api.specs.declared.code.Code.{Code}
use Rattle.clock_api.specs.Replies.{Answer}
use Rattle.clock_front.specs.FixedReplies.{no_memory}
use Rattle.clock_front.specs.Answered.{AnswersText}
use Rattle.clock_front.specs.Fronts.{StandsForTexts}
use Rattle.clock_device.specs.Reports.{Reading, Writing}
use Rattle.clock_device.specs.Writings.{WritesWhole, WritesFront, WritesNothing}
use Rattle.clock_connections.specs.Arrivals.{HasArrived, IsNotRead, HasNoMemory}
use Rattle.clock_front.specs.declared.stream.StreamFault.{StreamFault}
use Rattle.clock_front.specs.declared.stream.StreamFault.TheVariants as fault

-- No request was read, since a read failed or the limit of reads was reached. The front is
-- unchanged.
abbrev pub IsLeftUnread : Reading → HouseFields → HouseFields → Type 0
IsLeftUnread reading old new = IsNotRead reading × (new ≡ old)

-- The reply to the bytes that were read; or the out-of-memory reply, because memory ran out while
-- they were read, and then the front is unchanged.
abbrev pub IsAnswerTo : Reading → Answer → HouseFields → HouseFields → Type 0
IsAnswerTo reading answer old new =
    ((text : List ℕ) × HasArrived reading text × AnswersText text answer old new)
    ⊎ (HasNoMemory reading × (answer ≡ no_memory) × (new ≡ old))

-- How a stream was served, by the result. `Ok`: the whole reply with this code was written. `Read`:
-- no request was read, and nothing was written. `Write`: a write failed, a prefix of the reply was
-- written, and the request took effect as the code says.
abbrev pub IsServed : Reading → Writing → HouseFields → HouseFields
    → Result Code StreamFault → Type 0
IsServed reading writing old new (Ok code) = (answer : Answer) × IsAnswerTo reading answer old new
    × (answer.code ≡ code) × WritesWhole writing answer.bytes
IsServed reading writing old new (Err fault.Read) =
    IsLeftUnread reading old new × WritesNothing writing
IsServed reading writing old new (Err (fault.Write code)) = (answer : Answer)
    × IsAnswerTo reading answer old new × (answer.code ≡ code) × WritesFront writing answer.bytes

-- The front stands for these requests, and for at most `most` newer ones.
abbrev pub HasServed : ℕ → List (List ℕ) → HouseFields → Type 0
HasServed most texts house =
    (served : List (List ℕ)) × (length served ≤ most) × StandsForTexts (served ++ texts) house
