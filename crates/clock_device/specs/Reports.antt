-- What a source and a sink report, and a sequence of calls.
--     SourceReport, SinkReport     what they report
--     unread, unused     what they report before the first call
--     IsUnread, IsUnused     no read was made yet; no write was made yet
--     Reading, Writing     what they reported before and after some calls
use Rattle.std.specs.Prelude.{◌≡◌, ℕ, List, Option, Bool, false}

-- the bytes left, if reported; the numbers of reads and of interrupted ones; whether one has failed
pub record SourceReport : Type 0 where
  pub left : Option (List ℕ)
  pub calls : ℕ
  pub interruptions : ℕ
  pub has_failed : Bool

-- the bytes written, if reported; the number of writes; whether one has failed
pub record SinkReport : Type 0 where
  pub taken : Option (List ℕ)
  pub calls : ℕ
  pub has_failed : Bool

-- a source with these bytes left, before the first read
abbrev pub unread : Option (List ℕ) → SourceReport
unread left = record { left = left; calls = 0; interruptions = 0; has_failed = false }

-- a sink with these bytes written, before the first write through it
abbrev pub unused : Option (List ℕ) → SinkReport
unused taken = record { taken = taken; calls = 0; has_failed = false }

-- no read was made yet: none is counted, was interrupted, or has failed
pub record IsUnread (report : SourceReport) : Type 0 where
  pub uncounted : report.calls ≡ 0
  pub uninterrupted : report.interruptions ≡ 0
  pub unfailed : report.has_failed ≡ false

-- no write was made yet: none is counted or has failed
pub record IsUnused (report : SinkReport) : Type 0 where
  pub uncounted : report.calls ≡ 0
  pub unfailed : report.has_failed ≡ false

-- a sequence of reads
pub record Reading : Type 0 where
  pub before : SourceReport
  pub after : SourceReport

-- a sequence of writes
pub record Writing : Type 0 where
  pub before : SinkReport
  pub after : SinkReport
