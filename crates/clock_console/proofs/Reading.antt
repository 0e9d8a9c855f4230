-- How the last read ends reading: it fails, gives one byte too many, or finds no memory for its bytes.
use Rattle.std.proofs.Common.{◌≡◌, ℕ, ◌+◌, ◌≤◌, false, true, List, [], ◌++◌, Err, length, ◌∙◌, inl, arith}
use Rattle.std.proofs.lemmas.List.{append-nil, length-append}
use Rattle.clock_device.specs.Streams.{HasRead}
use Rattle.clock_device.proofs.Streams.{read_nothing, read_twice, same_bytes}
use Rattle.clock_device.specs.Reports.{IsUnread, Reading, SourceReport}
use Rattle.clock_console.specs.Input.{IsReadingOf, Takes, most_bytes}
use Rattle.clock_console.specs.declared.fault.Fault.TheVariants as fault

-- the reads before one more
module _ (reading : Reading) (mid : SourceReport) (document : List ℕ)
    (read : HasRead reading.before.left mid.left document) (few : length document ≤ most_bytes)
    (used : mid.calls ≤ length document + mid.interruptions) (unfailed : mid.has_failed ≡ false)
    (once : reading.after.calls ≤ mid.calls + 1) (kept : mid.interruptions ≤ reading.after.interruptions) where
  -- one more read, which gave these bytes
  took : (bytes : List ℕ) (others : ℕ) → HasRead mid.left reading.after.left bytes → reading.after.calls
      ≤ length (document ++ bytes) + reading.after.interruptions + others → Takes reading others (document ++ bytes)
  took bytes others further count =
      record {
        read = read_twice reading.before.left mid.left reading.after.left document bytes read further;
        used = count;
      }

  -- it failed
  pub failed_last : HasRead mid.left reading.after.left [] → reading.after.has_failed ≡ true
      → IsReadingOf reading (Err fault.Input)
  failed_last further fails =
      inl (document ++ [], (took [] 1 further (rw length-append (omega arith)), rw append-nil few), fails)

  -- it gave one byte too many
  pub too_much : (bytes : List ℕ) → HasRead mid.left reading.after.left bytes → length document + length bytes
      ≡ most_bytes + 1 → reading.after.has_failed ≡ mid.has_failed → IsReadingOf reading (Err fault.LongInput)
  too_much bytes further long fails =
      let all : length (document ++ bytes) ≡ most_bytes + 1 = rw length-append long in
      ((document ++ bytes, took bytes 0 further (omega (arith, all)), all), fails ∙ unfailed)

  -- memory for its bytes was refused
  pub no_memory : (bytes : List ℕ) → HasRead mid.left reading.after.left bytes → length document + length bytes
      ≤ most_bytes → reading.after.has_failed ≡ mid.has_failed → IsReadingOf reading (Err fault.Memory)
  no_memory bytes further some fails = (
    document ++ bytes,
    (took bytes 1 further (rw length-append (omega arith)), rw length-append some),
    fails ∙ unfailed,
  )

-- nothing was read, because memory was refused
pub unread_for_memory : (report : SourceReport) → IsUnread report
    → IsReadingOf (record { before = report; after = report }) (Err fault.Memory)
unread_for_memory report unused = (
  [],
  (
    record {
      read = read_nothing report.left report.left (same_bytes report.left);
      used = omega (arith, unused.uncounted);
    },
    omega arith,
  ),
  unused.unfailed,
)
