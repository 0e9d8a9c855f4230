-- What an exchange says of bytes, and which requests a past needs.
--     ReportedBytes      if contracts see a connection's bytes, its request was their beginning
--     GetsChangeNothing      a request by GET changes nothing
--     CanBeLeftOut      a reply is the same without an earlier request that changes nothing
--     AreAnswered exchanges texts answers      these requests were read, and got these replies
--     ServedIsRun      all requests that were served are a run, refused ones and reads included
use Rattle.std.specs.Prelude.{◌≡◌, ◌⊎◌, ◌++◌, ℕ, List, [], ◌∷◌, Some, codes, reverse}
use Rattle.clock_terms.specs.Limits.{IsSetup, SetupFields}
use Rattle.clock_house.specs.{History.{history}, Laws.{IsSound}}
use Rattle.clock_http.specs.Framing.{Head, framing, whole}
use Rattle.clock_api.specs.Replies.{Answer}
use Rattle.clock_device.specs.Reports.{Reading}
use Rattle.clock_connections.specs.Arrivals.{HasArrived}
use Rattle.clock_front.specs.Effects.{effect}
use Rattle.clock_front.specs.Fronts.{commands_of, reply}
use Rattle.clock_front.specs.Headline.{Runs}
use Rattle.clock_front.specs.declared.front.response.Effect.TheVariants.{Nothing}
use Rattle.clock_journal.specs.Logged.{JournalState}
use Rattle.clock_server.specs.Exchanges.{Exchange, Sends}
use Rattle.clock_server.specs.Serving.{EndsUnanswered, ServerState, Walks}

-- for the reads of a connection
abbrev pub ReportedBytes : Type 0
ReportedBytes = (reading : Reading) (text offered left : List ℕ) → HasArrived reading text
    → reading.before.left ≡ Some offered → reading.after.left ≡ Some left
    → offered ≡ text ++ left

-- whatever the set-up, who sends it, and what came before: GET is safe (RFC 9110)
abbrev pub GetsChangeNothing : Type 0
GetsChangeNothing = (setup : SetupFields) (past : List (List ℕ)) (text body : List ℕ) (head : Head)
    → framing text ≡ whole head body → head.method ≡ codes "GET" → effect setup past text ≡ Nothing

-- the newest request of a past, which changed nothing
abbrev pub CanBeLeftOut : Type 0
CanBeLeftOut = (setup : SetupFields) (past : List (List ℕ)) (text other : List ℕ)
    → effect setup past text ≡ Nothing → reply setup (text ∷ past) other ≡ reply setup past other

-- in order; on the other connections no request could be read, or memory ran out before it was
abbrev pub AreAnswered : List Exchange → List (List ℕ) → List Answer → Type 0
AreAnswered [] texts answers = (texts ≡ []) × (answers ≡ [])
AreAnswered (one ∷ others) texts answers = ((journal : JournalState) × EndsUnanswered one journal
    × AreAnswered others texts answers) ⊎ ((text : List ℕ) × (answer : Answer)
    × (journal : JournalState) × (later : List (List ℕ)) × (further : List Answer)
    × HasArrived one.reading text × Sends one.writing one.logged answer.bytes journal
    × (texts ≡ text ∷ later) × (answers ≡ answer ∷ further) × AreAnswered others later further)

-- from accepted texts, or from none: then `Runs` and the soundness at the end are `IsRun`
abbrev pub ServedIsRun : Type 0
ServedIsRun = (setup : SetupFields) → IsSetup setup → (before : ServerState)
    (exchanges : List Exchange) (after : ServerState) → Walks setup before exchanges after
    → (texts : List (List ℕ)) × (answers : List Answer) × (end : List (List ℕ))
    × AreAnswered exchanges texts answers × Runs setup (reverse before.texts) texts answers end
    × IsSound setup (history setup (commands_of setup end))
