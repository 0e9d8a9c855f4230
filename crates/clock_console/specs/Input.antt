-- How much of the input is read, and how reading ends. Own limits: 64 MiB, in 100,000,000 reads.
--     Takes     these bytes were read, and how many reads that took
--     ReadsWhole     the document is the whole input
--     TakesUpTo     the bytes read are within the limit
--     ReadsTooMuch     one byte more than the limit was read
--     IsReadingOf     how reading ended, by its result
use Rattle.std.specs.Prelude.{◌≡◌, ◌≤◌, ◌⊎◌, ◌+◌, ℕ, List, length, false, Result, Ok, Err}
use Rattle.clock_device.specs.Streams.{HasRead, IsReadOut}
use Rattle.clock_device.specs.Readings.{HasFailedRead, RunsOutOfReads}
use Rattle.clock_device.specs.Reports.{Reading}
use Rattle.clock_console.specs.declared.fault.Fault.{Fault}
use Rattle.clock_console.specs.declared.fault.Fault.TheVariants as fault

-- the most bytes
abbrev pub most_bytes : ℕ
most_bytes = 67108864

-- the most reads
abbrev pub most_document_reads : ℕ
most_document_reads = 100000000

-- these bytes were read; each read but `others` gave one of them or was interrupted
pub record Takes (reading : Reading) (others : ℕ) (bytes : List ℕ) : Type 0 where
  pub read : HasRead reading.before.left reading.after.left bytes
  pub used : reading.after.calls ≤ length bytes + reading.after.interruptions + others

-- the document is the whole input, within the limit; one read found the end
pub record ReadsWhole (reading : Reading) (document : List ℕ) : Type 0 where
  pub takes : Takes reading 1 document
  pub out : IsReadOut reading.after.left
  pub few : length document ≤ most_bytes
  pub unfailed : reading.after.has_failed ≡ false

-- the bytes read are within the limit
abbrev pub TakesUpTo : ℕ → Reading → List ℕ → Type 0
TakesUpTo others reading bytes = Takes reading others bytes × (length bytes ≤ most_bytes)

-- one byte more than the limit was read
abbrev pub ReadsTooMuch : Reading → Type 0
ReadsTooMuch reading = (bytes : List ℕ) × Takes reading 0 bytes × (length bytes ≡ most_bytes + 1)

-- How reading ends. `Input`: a read failed, the only one without a byte or an interruption; or
-- bytes and interruptions used up all reads. Interrupted reads are retried.
abbrev pub IsReadingOf : Reading → Result (List ℕ) Fault → Type 0
IsReadingOf reading (Ok document) = ReadsWhole reading document
IsReadingOf reading (Err fault.Input) = HasFailedRead (TakesUpTo 1 reading) reading
    ⊎ RunsOutOfReads (TakesUpTo 0 reading) most_document_reads reading
IsReadingOf reading (Err fault.LongInput) =
    ReadsTooMuch reading × (reading.after.has_failed ≡ false)
IsReadingOf reading (Err fault.Memory) =
    (bytes : List ℕ) × TakesUpTo 1 reading bytes × (reading.after.has_failed ≡ false)
IsReadingOf reading (Err other) = ⊥
