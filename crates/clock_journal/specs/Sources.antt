-- What is recovered of a journal that a source has, which is read piece by piece.
--     HasBytes left bytes      the source had these bytes, if it reports its bytes
--     most_interruptions      how often a read is retried
--     most_counted      the greatest number that a report counts to
--     IsBroken before after      a read has failed, or was interrupted too often since `before`
--     IsUnreadable before after bytes      reading failed, or there are too many bytes to count
--     IsNotRead refuses digest bytes before after why      the file has this fault, or at `Unread`
--         was not read
use Rattle.std.specs.Prelude.{◌≡◌, ◌≤◌, ◌⊎◌, ◌^◌, ◌+◌, ◌-◌, ℕ, List, Option, Some, None, length}
use Rattle.std.specs.Prelude.{min, true}
use Rattle.clock_device.specs.Reports.{SourceReport}
use Rattle.clock_journal.specs.Recovering.{IsFound}
use Rattle.clock_journal.specs.declared.recovery.JournalFault.{JournalFault}
use Rattle.clock_journal.specs.declared.recovery.JournalFault.TheVariants.{Unread}

-- all bytes of the source, if it reports them; it may have any bytes if it does not
abbrev pub HasBytes : Option (List ℕ) → List ℕ → Type 0
HasBytes None bytes = Unit {0}
HasBytes (Some left) bytes = left ≡ bytes

-- how often one read is tried
abbrev pub most_interruptions : ℕ
most_interruptions = 1000000

-- a report's counts stay at this number
abbrev pub most_counted : ℕ
most_counted = 2 ^ 64 - 1

-- a read has failed, or one since `before` was interrupted too often
abbrev pub IsBroken : SourceReport → SourceReport → Type 0
IsBroken before after = (after.has_failed ≡ true)
    ⊎ (min (before.interruptions + most_interruptions) most_counted ≤ after.interruptions)

-- reading failed, or the bytes are more than can be counted
abbrev pub IsUnreadable : SourceReport → SourceReport → List ℕ → Type 0
IsUnreadable before after bytes = IsBroken before after ⊎ (2 ^ 64 ≤ length bytes)

-- at `Unread`, the bytes could not be read; at any other fault, they have it
abbrev pub IsNotRead : (List (List ℕ) → List ℕ → Type 0) → List ℕ → List ℕ → SourceReport
    → SourceReport → JournalFault → Type 0
IsNotRead refuses digest bytes before after Unread = IsUnreadable before after bytes
IsNotRead refuses digest bytes before after why = IsFound refuses digest bytes why
