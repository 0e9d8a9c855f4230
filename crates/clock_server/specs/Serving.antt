-- How connections are served one after the other, one request each.
--     EndsUnanswered one journal      no text was read that could be answered
--     ServerState      the accepted texts, the journal, and the reported rounds
--     RepliesTo setup before one after      the reply is the right one after the texts before it
--     LogsText setup before one after      the reply is right, and a text that changes the auction
--         is on the disk when the first byte of its reply is sent
--     Walks setup before exchanges after      this holds of each of these connections, in order
--     AreServed exchanges ..      all of these connections were served
--     IsUnlogged reading ..      the text that was read could not be logged
--     EndsServing count exchanges .. result      how serving `count` connections ends
use Rattle.std.specs.Prelude.{◌≡◌, ◌<◌, ◌≤◌, ◌⊎◌, ◌++◌, ℕ, true, List, [], ◌∷◌, length}
use Rattle.std.specs.Prelude.{Option, Result, Ok, Err, reverse}
use Rattle.clock_terms.specs.Limits.{SetupFields}
use Rattle.clock_house.specs.House.{HouseFields}
use Rattle.clock_api.specs.Replies.{Answer}
use Rattle.clock_device.specs.Reports.{Reading}
use Rattle.clock_connections.specs.Arrivals.{HasArrived, HasNoMemory, IsNotRead}
use Rattle.clock_front.specs.Effects.{effect}
use Rattle.clock_front.specs.FixedReplies.{no_memory}
use Rattle.clock_front.specs.Fronts.{IsOutOfMemoryReply, StandsForTexts}
use Rattle.clock_front.specs.Headline.{IsRight}
use Rattle.clock_journal.specs.Crash.{LeavesOneMore, LeavesSince, LeavesTexts}
use Rattle.clock_journal.specs.Logged.{HasTexts, JournalState}
use Rattle.clock_server.specs.Keeping.{GrowsBy, IsAccepted, logged_after, round_closed}
use Rattle.clock_server.specs.Exchanges.{Exchange, Sends, SendsNothing}
use Rattle.clock_server.specs.declared.serving.ServeFault.{ServeFault}
use Rattle.clock_server.specs.declared.serving.ServeFault.TheVariants.{Accept, Journal}

-- memory ran out, and the reply says so; or no request could be read, and nothing was sent
abbrev pub EndsUnanswered : Exchange → JournalState → Type 0
EndsUnanswered one journal = (HasNoMemory one.reading × Sends one.writing one.logged no_memory.bytes
    journal) ⊎ (IsNotRead one.reading × SendsNothing one)

-- the accepted texts, the oldest first; the journal; and the reported rounds, if contracts see them
pub record ServerState : Type 0 where
  pub texts : List (List ℕ)
  pub journal : JournalState
  pub rounds : Option (List ℕ)

-- a request got the right reply. If it is accepted, it joins the texts, and what it closed is
-- reported; else it changes nothing, and is left out. Or memory ran out, or no request was read
abbrev pub RepliesTo : SetupFields → ServerState → Exchange → ServerState → Type 0
RepliesTo setup before one after = ((text : List ℕ) × (answer : Answer) × HasArrived one.reading
    text × Sends one.writing one.logged answer.bytes after.journal × ((IsRight setup
    (reverse before.texts) text answer × (after.texts ≡ logged_after setup before.texts text)
    × GrowsBy before.rounds after.rounds (round_closed (effect setup (reverse before.texts) text)))
    ⊎ (IsOutOfMemoryReply text answer × (after ≡ before))))
    ⊎ (EndsUnanswered one after.journal × (after ≡ before))

-- the reply is right; a journal that had the texts before has those after; a crash leaves either
pub record LogsText (setup : SetupFields) (before : ServerState) (one : Exchange)
    (after : ServerState) : Type 0 where
  pub replies : RepliesTo setup before one after
  pub logs : (digest : List ℕ) → HasTexts digest before.texts before.journal
      → HasTexts digest after.texts after.journal × LeavesSince before.journal after.journal
      (λ left. LeavesTexts digest left after.texts (length before.texts))

-- each connection leads from the state before it to the one after it, in order
abbrev pub Walks : SetupFields → ServerState → List Exchange → ServerState → Type 0
Walks setup before [] after = after ≡ before
Walks setup before (one ∷ others) after =
    (next : ServerState) × LogsText setup before one next × Walks setup next others after

-- from any texts that the front stood for, these connections lead to texts that it stands for now
abbrev pub AreServed : List Exchange → Option (List ℕ) → Option (List ℕ) → JournalState
    → JournalState → HouseFields → HouseFields → Type 0
AreServed exchanges rounds_old rounds_new journal_old journal_new old new =
    (past : List (List ℕ)) → StandsForTexts (reverse past) old → (end : List (List ℕ))
    × Walks old.setup (record { texts = past; journal = journal_old; rounds = rounds_old })
    exchanges (record { texts = end; journal = journal_new; rounds = rounds_new })
    × StandsForTexts (reverse end) new

-- an accepted text was not logged, since the disk failed; a crash leaves at most this one more
pub record IsUnlogged (reading : Reading) (journal_old journal_new : JournalState)
    (old : HouseFields) : Type 0 where
  pub text : List ℕ
  pub arrived : HasArrived reading text
  pub accepted : (past : List (List ℕ)) → StandsForTexts past old → IsAccepted old.setup past text
  pub failed : journal_new.has_failed ≡ true
  pub moments : LeavesOneMore text journal_old journal_new
  pub on_disk : journal_new.synced ≡ journal_old.synced

-- all were served, or those before one that was not accepted, or all but one that was not logged
abbrev pub EndsServing : {U : Type 0} → ℕ → List Exchange → Option (List ℕ) → Option (List ℕ)
    → JournalState → JournalState → HouseFields → HouseFields → Result U ServeFault → Type 0
EndsServing count exchanges rounds_old rounds_new journal_old journal_new old new (Ok done) =
    (length exchanges ≡ count)
    × AreServed exchanges rounds_old rounds_new journal_old journal_new old new
EndsServing count exchanges rounds_old rounds_new journal_old journal_new old new (Err Accept) =
    (length exchanges < count)
    × AreServed exchanges rounds_old rounds_new journal_old journal_new old new
EndsServing count exchanges rounds_old rounds_new journal_old journal_new old new (Err Journal) =
    (served : List Exchange) × (last : Exchange) × (exchanges ≡ served ++ last ∷ [])
    × (length exchanges ≤ count) × (before : JournalState) × (house : HouseFields)
    × AreServed served rounds_old rounds_new journal_old before old house × SendsNothing last
    × (house.setup ≡ old.setup) × IsUnlogged last.reading before journal_new house
