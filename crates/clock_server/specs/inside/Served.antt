-- How one connection is served.
--     LogsChange effect text old new      a text is logged if it changes the auction
--     IsAnswered one changed ..      a text was read, answered, and logged if it changes the
--         auction, and its reply was sent
--     IsServed one changed ..      so it was; or no text was read that could be answered
--     EndsTaken one .. result      how serving an accepted connection ends
--     IsReported old new changed      the closed round, if any, was reported
use Rattle.std.specs.Prelude.{◌≡◌, ◌⊎◌, ℕ, List, [], ◌∷◌, Option, Result, Ok, Err}
use Rattle.clock_house.specs.House.{HouseFields}
use Rattle.clock_api.specs.Replies.{Answer}
use Rattle.clock_connections.specs.Arrivals.{HasArrived}
use Rattle.clock_front.specs.Effects.{RespondsTo}
use Rattle.clock_front.specs.declared.front.response.Effect.{Effect}
use Rattle.clock_front.specs.declared.front.response.Effect.TheVariants.{Nothing, Closing}
use Rattle.clock_journal.specs.Crash.{LeavesOneMore}
use Rattle.clock_journal.specs.Logged.{IsAppended, JournalState}
use Rattle.clock_server.specs.Keeping.{GrowsBy}
use Rattle.clock_server.specs.Serving.{EndsUnanswered, IsUnlogged}
use Rattle.clock_server.specs.Exchanges.{Exchange, Sends, SendsNothing}

-- a text that changes the auction is appended to the journal; any other leaves it as it is
abbrev pub LogsChange : Effect → List ℕ → JournalState → JournalState → Type 0
LogsChange Nothing text old new = new ≡ old
LogsChange effect text old new = IsAppended text old new

-- the text that was read changed this, is logged if it changes the auction, and got this reply
pub record IsAnswered (one : Exchange) (changed : Effect) (journal_old journal_new : JournalState)
    (old new : HouseFields) : Type 0 where
  pub text : List ℕ
  pub reply : Answer
  pub arrived : HasArrived one.reading text
  pub responds : RespondsTo text (record { reply = reply; effect = changed }) old new
  pub logged : LogsChange changed text journal_old journal_new
  pub moments : LeavesOneMore text journal_old journal_new
  pub sends : Sends one.writing one.logged reply.bytes journal_new

-- so it was answered; or no text was read that could be, and nothing changed
abbrev pub IsServed : Exchange → Effect → JournalState → JournalState → HouseFields → HouseFields
    → Type 0
IsServed one changed journal_old journal_new old new =
    IsAnswered one changed journal_old journal_new old new
    ⊎ (EndsUnanswered one journal_new × (changed ≡ Nothing) × (journal_new ≡ journal_old)
    × (new ≡ old))

-- an accepted connection was served, or its text could not be logged
abbrev pub EndsTaken : {E : Type 0} → Exchange → JournalState → JournalState → HouseFields
    → HouseFields → Result Effect E → Type 0
EndsTaken one journal_old journal_new old new (Ok changed) =
    IsServed one changed journal_old journal_new old new
EndsTaken one journal_old journal_new old new (Err failed) =
    IsUnlogged one.reading journal_old journal_new old × SendsNothing one

-- the closed round, if any, was reported
abbrev pub IsReported : Option (List ℕ) → Option (List ℕ) → Effect → Type 0
IsReported rounds_old rounds_new (Closing round) = GrowsBy rounds_old rounds_new (round ∷ [])
IsReported rounds_old rounds_new changed = rounds_new ≡ rounds_old
