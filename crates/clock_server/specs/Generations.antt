-- The second headline: what is proved of a server over all of its crashes and restarts. In plain
-- words: a generation is what one server does with a journal's file, from its start until it ends.
-- Take any list of generations. The first one starts on an empty file, and each later one on what a
-- crash may have left of the one before.
-- - No start is refused. It fails only if memory runs out, a call of the disk fails, or the file
--   cannot be read.
-- - Each start resumes with every text that was logged when the generation before ended, and with
--   at most one more. It was accepted, but a call of the disk failed when it was to be logged. Its
--   connection was the last one, and got no reply.
-- - Each reply of each generation is the right one after the texts that are logged, and private, as
--   in the headline. An accepted text is on the disk before the first byte of its reply is sent.
--
-- A crash may come at any moment: a generation that crashes is one that ends there. The disk and
-- the network may fail at each call, and a failed write may have written any part of its bytes. A
-- failed start is a generation too. The premise is that a crash leaves all synced bytes of a file,
-- and some prefix of the rest (`MayBeLeft`).
--
-- Contracts see no byte of a real file, so what a crash leaves of it (`IsGeneration`) is stated of
-- no real file. `serve_from` has one body for all disks, and cannot know which one it has: that it
-- does the same on a file is an argument in words.
--     Generation      a start that failed, or a start, the connections that were served, and one
--         that could not be logged, if any
--     EndsWith setup last unlogged end more      what the file may have in addition
--         to the last texts
--     Serves setup texts exchanges unlogged end      from these texts, it serves these connections
--     ServesFrom setup digest texts least exchanges unlogged end      it resumes with a prefix of
--         these texts, and serves
--     IsGeneration setup digest one      what one generation does with an auction's own file
--     LeftSince old new left      a crash at a moment between two states of a disk may leave this
--     MayLeave one left      a crash of this generation may leave this
--     found_by one      the journal before its first call
--     AreRestarts setup digest Leaves generations      each starts on what a crash may have left of
--         the one before
--     ContinueFrom setup digest texts least generations      each continues after the one before
--     GenerationsContinue      generations on one file continue one auction
--     ServesFile setup bytes exchanges unlogged found end      it resumes with the texts of these
--         bytes, and serves, whether contracts see the disk or not
--     EndsGeneration setup count exchanges bytes found end result      how one generation ends
use Rattle.std.specs.Prelude.{◌≡◌, ◌<◌, ◌≤◌, ◌⊎◌, ◌++◌, ℕ, true, List, [], ◌∷◌, length, take}
use Rattle.std.specs.Prelude.{Option, Some, None, Result, Ok, Err, reverse}
use Rattle.clock_terms.specs.Limits.{SetupFields}
use Rattle.clock_connections.specs.Arrivals.{HasArrived}
use Rattle.clock_journal.specs.Crash.{LeavesJournal}
use Rattle.clock_journal.specs.Disks.{CouldBeLeft, LeaveOnly, MayBeLeft, Moment}
use Rattle.clock_journal.specs.Format.{last_link}
use Rattle.clock_journal.specs.Logged.{HasTexts, JournalState}
use Rattle.clock_journal.specs.Resuming.{IsLeftBy, IsNotRefused, NoneRefused}
use Rattle.clock_journal.specs.declared.recovery.JournalFault.{JournalFault}
use Rattle.clock_server.specs.Accepted.{IsOwnFile}
use Rattle.clock_server.specs.Exchanges.{Exchange, SendsNothing}
use Rattle.clock_server.specs.Keeping.{IsAccepted, IsRefused}
use Rattle.clock_server.specs.Serving.{ServerState, Walks}
use Rattle.clock_server.specs.declared.generation.ServerFault.{ServerFault}
use Rattle.clock_server.specs.declared.generation.ServerFault.TheVariants.{Start, Listen, Serve}
use Rattle.clock_server.specs.declared.serving.ServeFault.TheVariants.{Accept, Journal}

-- a failed start; or a start, then these connections, and one whose text could not be logged, if
-- any. Each has the journals before and at the end
pub data Generation : Type 0 where
  failed : JournalState → JournalFault → JournalState → Generation
  served : JournalState → List Exchange → Option Exchange → JournalState → Generation

-- only the last texts; or one more, which arrived and was accepted, and got no reply, since a call
-- of the disk failed
abbrev pub EndsWith : SetupFields → ServerState → Option Exchange → JournalState → List (List ℕ)
    → Type 0
EndsWith setup last None end more = (end ≡ last.journal) × (more ≡ [])
EndsWith setup last (Some one) end more = (text : List ℕ) × HasArrived one.reading text
    × IsAccepted setup (reverse last.texts) text × SendsNothing one × (end.has_failed ≡ true)
    × (more ≡ text ∷ [])

-- each connection in order, and then perhaps one whose text could not be logged
pub record Serves (setup : SetupFields) (texts : List (List ℕ)) (exchanges : List Exchange)
    (unlogged : Option Exchange) (end : JournalState) : Type 0 where
  pub resumed : JournalState
  pub last : ServerState
  pub walks : Walks setup
      (record { texts = texts; journal = resumed; rounds = None }) exchanges last
  pub more : List (List ℕ)
  pub ends : EndsWith setup last unlogged end more

-- it resumes with `count` texts, and serves; a crash then leaves all logged, and at most one more
pub record ServesFrom (setup : SetupFields) (digest : List ℕ) (texts : List (List ℕ)) (least : ℕ)
    (exchanges : List Exchange) (unlogged : Option Exchange) (end : JournalState) : Type 0 where
  pub count : ℕ
  pub enough : least ≤ count
  pub most : count ≤ length texts
  pub serves : Serves setup (take count texts) exchanges unlogged end
  pub has : HasTexts digest (take count texts) serves.resumed
  pub own : IsOwnFile setup digest (serves.last.texts ++ serves.more) (length serves.last.texts) end

-- if it found its own file: it serves from the first of these texts. Or its start failed for
-- memory, the disk, or reading, and what a crash left since is a file of these texts
abbrev pub IsGeneration : SetupFields → List ℕ → Generation → Type 0
IsGeneration setup digest (failed found fault end) =
    (texts : List (List ℕ)) (least : ℕ) (synced : List ℕ) → found.synced ≡ Some synced
    → IsOwnFile setup digest texts least found → IsNotRefused fault
    × LeaveOnly found.moments end.moments (λ left. LeavesJournal digest left texts least)
IsGeneration setup digest (served found exchanges unlogged end) =
    (texts : List (List ℕ)) (least : ℕ) (synced : List ℕ) → found.synced ≡ Some synced
    → IsOwnFile setup digest texts least found
    → ServesFrom setup digest texts least exchanges unlogged end

-- a crash at a moment since then may leave this
abbrev pub LeftSince : Option (List Moment) → Option (List Moment) → List ℕ → Type 0
LeftSince (Some old) new left =
    (since : List Moment) × (new ≡ Some (since ++ old)) × CouldBeLeft since left
LeftSince None new left = ⊥

-- a crash at its end may leave this, or one before or during a start that failed
abbrev pub MayLeave : Generation → List ℕ → Type 0
MayLeave (failed found fault end) left =
    MayBeLeft found.synced found.written left ⊎ LeftSince found.moments end.moments left
MayLeave (served found exchanges unlogged end) left = MayBeLeft end.synced end.written left

-- the journal before the first call
abbrev pub found_by : Generation → JournalState
found_by (failed found fault end) = found
found_by (served found exchanges unlogged end) = found

-- each is a generation, and what a crash leaves of its file, one before it may have left
abbrev pub AreRestarts : SetupFields → List ℕ → (List ℕ → Type 0) → List Generation → Type 0
AreRestarts setup digest Leaves [] = Unit {0}
AreRestarts setup digest Leaves (one ∷ others) =
    IsGeneration setup digest one
    × ((synced : List ℕ) × ((found_by one).synced ≡ Some synced))
    × ((left : List ℕ) → MayBeLeft (found_by one).synced (found_by one).written left → Leaves left)
    × AreRestarts setup digest (MayLeave one) others

-- each serves from what the one before has left: all texts that were logged, and at most one more
abbrev pub ContinueFrom : SetupFields → List ℕ → List (List ℕ) → ℕ → List Generation → Type 0
ContinueFrom setup digest texts least [] = Unit {0}
ContinueFrom setup digest texts least (failed found fault end ∷ others) =
    IsNotRefused fault × ContinueFrom setup digest texts least others
ContinueFrom setup digest texts least (served found exchanges unlogged end ∷ others) =
    (from : ServesFrom setup digest texts least exchanges unlogged end) × ContinueFrom setup digest
    (from.serves.last.texts ++ from.serves.more) (length from.serves.last.texts) others

-- generations on one file, which is empty at first, continue one auction
abbrev pub GenerationsContinue : Type 0
GenerationsContinue = (setup : SetupFields) (digest : List ℕ) (generations : List Generation)
    → AreRestarts setup digest (λ left. left ≡ []) generations
    → ContinueFrom setup digest [] 0 generations

-- `bytes` is the journal of these texts, each of which was accepted after those before it, and it
-- served from them. If `bytes` was the whole file, and contracts see it, this was a generation
pub record ServesFile (setup : SetupFields) (bytes : List ℕ) (exchanges : List Exchange)
    (unlogged : Option Exchange) (found end : JournalState) : Type 0 where
  pub texts : List (List ℕ)
  pub file : LeavesJournal found.chain bytes texts (length texts)
  pub accepted : NoneRefused (IsRefused setup) [] texts
  pub serves : Serves setup texts exchanges unlogged end
  pub chained : serves.resumed.chain ≡ last_link found.chain texts
  pub generation : found.written ≡ Some bytes
      → IsGeneration setup found.chain (served found exchanges unlogged end)

-- its start failed; or it did not listen, or served all, or those before one that was not accepted,
-- or all but the last, which could not be logged
abbrev pub EndsGeneration : {U E : Type 0} → SetupFields → ℕ → List Exchange → List ℕ
    → JournalState → JournalState → Result U (ServerFault E) → Type 0
EndsGeneration setup count exchanges bytes found end (Err (Start fault)) = (exchanges ≡ [])
    × IsLeftBy found end fault
    × (found.written ≡ Some bytes → IsGeneration setup found.chain (failed found fault end))
EndsGeneration setup count exchanges bytes found end (Err (Listen fault)) =
    (exchanges ≡ []) × ServesFile setup bytes exchanges None found end
EndsGeneration setup count exchanges bytes found end (Ok done) =
    (length exchanges ≡ count) × ServesFile setup bytes exchanges None found end
EndsGeneration setup count exchanges bytes found end (Err (Serve Accept)) =
    (length exchanges < count) × ServesFile setup bytes exchanges None found end
EndsGeneration setup count exchanges bytes found end (Err (Serve Journal)) =
    (some : List Exchange) × (last : Exchange) × (exchanges ≡ some ++ last ∷ [])
    × (length exchanges ≤ count) × ServesFile setup bytes some (Some last) found end
