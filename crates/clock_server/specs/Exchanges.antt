-- What contracts see of connections that are served one after the other. `None` means that
-- contracts do not see it; `None` of `logged` may also mean that nothing was sent.
--     Offer      what a connection has when it is accepted
--     Exchange      what was read and sent on a connection until it was closed
--     Sends writing logged reply journal      this reply was sent, and this was the journal then
--     SendsNothing one      no reply was sent
--     Came old new given      connections with these bytes were accepted, in order; the others are
--         still to come
--     bytes_given exchanges      what the source of each had before it was read
use Rattle.std.specs.Prelude.{◌≡◌, ◌≤◌, ◌++◌, ℕ, true, false, List, length, map, take, Option, Some}
use Rattle.std.specs.Prelude.{None, IfSome}
use Rattle.clock_device.specs.Reports.{Reading, SinkReport, SourceReport, Writing, unused}
use Rattle.clock_device.specs.Streams.{HasWritten}
use Rattle.clock_journal.specs.Logged.{JournalState}

-- what its source and its sink had when it was accepted
pub record Offer : Type 0 where
  pub source : SourceReport
  pub sink : SinkReport

-- all reads and writes, and the journal when the first byte was sent, if contracts see it
pub record Exchange : Type 0 where
  pub reading : Reading
  pub writing : Writing
  pub logged : Option JournalState

-- the reply, or a prefix if a write failed, was sent when this was the journal
pub record Sends (writing : Writing) (logged : Option JournalState) (reply : List ℕ)
    (journal : JournalState) : Type 0 where
  pub count : ℕ
  pub bytes : HasWritten writing.before.taken writing.after.taken (take count reply)
  pub whole : writing.after.has_failed ≡ false → length reply ≤ count
  pub tried : writing.after.has_failed ≡ true → 1 ≤ length reply
  pub over : IfSome logged (λ seen. seen ≡ journal)

-- nothing was sent: the sink reports what it does before the first write, and no journal was seen
abbrev pub SendsNothing : Exchange → Type 0
SendsNothing one = (one.writing.after ≡ unused one.writing.before.taken) × (one.logged ≡ None)

-- these were the first of the connections to come, in order; the rest is still to come
abbrev pub Came : Option (List (List ℕ)) → Option (List (List ℕ)) → List (Option (List ℕ)) → Type 0
Came coming left given = IfSome coming (λ all. (rest : List (List ℕ)) × (left ≡ Some rest)
    × (map Some all ≡ given ++ map Some rest))

-- what the source of each had when the connection was accepted
abbrev pub bytes_given : List Exchange → List (Option (List ℕ))
bytes_given exchanges = map (λ one. one.reading.before.left) exchanges
