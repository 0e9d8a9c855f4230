-- What was read of a source that has a journal.
--     HasWholeHead digest bytes      the bytes begin with this head
--     IsMore old new before after      the bytes grew by those that were read
--     IsRead bytes is_all left      the bytes are those of one record, or all that was left
--     AreBytes bytes      each of them is below 256
--     IsNext chain bytes left found      what these bytes, which were read, say of what comes next
--     CountsOn before after      no interruption is forgotten
--     IsUnread before after why      memory ran out, or reading failed
--     IsOtherHead digest bytes why      the bytes begin with another head
--     IsReadOnWay new digest old left chain count end      `count` texts were read and taken, and
--         end at `end`
use Rattle.std.specs.Prelude.{◌≡◌, ◌⊎◌, ◌≤◌, ◌+◌, ◌++◌, ℕ, Bool, List, Option, MatchBool, drop}
use Rattle.std.specs.Prelude.{length, take, true, All, reverse, get_or, min, ◌<◌}
use Rattle.clock_device.specs.Reports.{SourceReport}
use Rattle.clock_device.specs.Streams.{HasRead, IsReadOut}
use Rattle.clock_journal.specs.Crash.{IsEnd}
use Rattle.clock_journal.specs.Format.{before_text, head, last_link, link, mark_length, records}
use Rattle.clock_journal.specs.Format.{Fits}
use Rattle.clock_journal.specs.Logged.{file_of}
use Rattle.clock_journal.specs.Reading.{damaged, is_marked, marked_length, next, whole}
use Rattle.clock_journal.specs.Recovering.{HasHead, HasSomeHead}
use Rattle.clock_journal.specs.Sources.{IsBroken, most_counted}
use Rattle.clock_journal.specs.declared.reading.Found.{Found}
use Rattle.clock_journal.specs.declared.reading.Found.TheVariants as found
use Rattle.clock_journal.specs.declared.recovery.JournalFault.{JournalFault}
use Rattle.clock_journal.specs.declared.recovery.JournalFault.TheVariants.{NoMemory, Setup, Unread}
use Rattle.clock_journal.specs.declared.recovery.JournalFault.TheVariants.{Unknown}

-- the bytes of a head
abbrev pub head_length : ℕ
head_length = 56

-- the bytes begin with this head
pub record HasWholeHead (digest bytes : List ℕ) : Type 0 where
  pub long : head_length ≤ length bytes
  pub same : take head_length bytes ≡ head digest

-- the bytes begin with another head, or with none
abbrev pub IsOtherHead : List ℕ → List ℕ → JournalFault → Type 0
IsOtherHead digest bytes Unknown = (HasHead digest bytes → ⊥) × (HasSomeHead bytes → ⊥)
IsOtherHead digest bytes Setup = (HasHead digest bytes → ⊥) × HasSomeHead bytes
IsOtherHead digest bytes other = ⊥

-- the records of `count` texts were read, which were taken
pub record IsReadOnWay (new : List ℕ → List (List ℕ) → Type 0) (digest : List ℕ)
    (old left : Option (List ℕ)) (chain : List ℕ) (count end : ℕ) : Type 0 where
  pub texts : List (List ℕ)
  pub fit : All Fits texts
  pub read : HasRead old left (records digest texts)
  pub chain_is : chain ≡ last_link digest texts
  pub count_is : count ≡ length texts
  pub end_is : end ≡ length (file_of digest texts)
  pub stands : new digest (reverse texts)

-- bytes were read, and appended to those before
pub record IsMore (old new : Option (List ℕ)) (before after : List ℕ) : Type 0 where
  pub bytes : List ℕ
  pub read : HasRead old new bytes
  pub grown : after ≡ before ++ bytes

-- at least what comes before a text; the text too, if the mark is right
abbrev pub IsAll : List ℕ → Type 0
IsAll bytes = (before_text ≤ length bytes) × (is_marked bytes ≡ true
    → before_text + marked_length bytes ≤ length bytes)

-- no byte after a record; all that was asked for, or no byte is left
pub record IsRead (bytes : List ℕ) (is_all : Bool) (left : Option (List ℕ)) : Type 0 where
  pub within : mark_length ≤ length bytes → is_marked bytes ≡ true
      → length bytes ≤ before_text + marked_length bytes
  pub read : MatchBool is_all (IsAll bytes) (IsReadOut left)

-- each of them is a byte
pub record AreBytes (bytes : List ℕ) : Type 0 where
  pub small : (place : ℕ) → get_or bytes place 0 < 256

-- a record whose text has this digest
pub record IsWhole (chain bytes digest : List ℕ) : Type 0 where
  pub comes : next chain bytes ≡ whole (drop before_text bytes)
  pub linked : digest ≡ link chain (drop before_text bytes)
  pub long : before_text ≤ length bytes
  pub are : AreBytes bytes

-- at an end, no byte is left
abbrev pub IsNext : List ℕ → List ℕ → Option (List ℕ) → Found → Type 0
IsNext chain bytes left found.Ended = IsEnd (next chain bytes) × IsReadOut left
IsNext chain bytes left found.Damaged = next chain bytes ≡ damaged
IsNext chain bytes left (found.Whole digest) = IsWhole chain bytes digest

-- no interruption is forgotten
abbrev pub CountsOn : SourceReport → SourceReport → Type 0
CountsOn before after = min before.interruptions most_counted ≤ after.interruptions

-- memory ran out, or reading failed
abbrev pub IsUnread : SourceReport → SourceReport → JournalFault → Type 0
IsUnread before after why = (why ≡ NoMemory) ⊎ ((why ≡ Unread) × IsBroken before after)
