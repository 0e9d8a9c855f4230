-- An auction's own journal: it has only texts that the auction accepted.
--     IsOwnFile setup digest texts least journal      a crash leaves the first of these accepted
--         texts, at least `least`
use Rattle.std.specs.Prelude.{ℕ, List, []}
use Rattle.clock_terms.specs.Limits.{SetupFields}
use Rattle.clock_journal.specs.Crash.{LeavesJournal}
use Rattle.clock_journal.specs.Disks.{MayBeLeft}
use Rattle.clock_journal.specs.Logged.{JournalState}
use Rattle.clock_journal.specs.Resuming.{NoneRefused}
use Rattle.clock_server.specs.Keeping.{IsRefused}

-- a crash leaves the first of these texts, at least `least`; each is accepted after those before it
pub record IsOwnFile (setup : SetupFields) (digest : List ℕ) (texts : List (List ℕ)) (least : ℕ)
    (journal : JournalState) : Type 0 where
  pub accepted : NoneRefused (IsRefused setup) [] texts
  pub leaves : (left : List ℕ) → MayBeLeft journal.synced journal.written left
      → LeavesJournal digest left texts least
