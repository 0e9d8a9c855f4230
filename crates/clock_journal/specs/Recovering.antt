-- How the journal in a file is replayed by a machine.
--     AreTextsOf digest bytes texts recovered      the recovered part of the file is the journal of
--         the texts
--     record_at digest past text      the record of a text after these
--     HasHead digest bytes      the file begins with its head, or is a prefix of it
--     HasSomeHead bytes      the file begins with the head of some journal
--     IsFound refuses digest bytes why      the file has this fault
use Rattle.std.specs.Prelude.{◌≡◌, ◌⊎◌, ◌++◌, ◌+◌, ℕ, List, [], ◌∷◌, length, take, reverse}
use Rattle.clock_journal.specs.Crash.{IsEnd, IsFile, IsPartOfHead}
use Rattle.clock_journal.specs.Format.{head, last_link}
use Rattle.clock_journal.specs.Logged.{file_of}
use Rattle.clock_journal.specs.Reading.{damaged, whole}
use Rattle.clock_journal.specs.declared.recovery.Record.{Record}
use Rattle.clock_journal.specs.declared.recovery.Recovered.{Recovered}
use Rattle.clock_journal.specs.declared.recovery.JournalFault.{JournalFault}
use Rattle.clock_journal.specs.declared.recovery.JournalFault.TheVariants as fault

-- the last digest and the number of these texts. Up to `end` the file is their journal, and then it
-- ends or is torn; or it is less than a head, and has no text
pub record AreTextsOf (digest bytes : List ℕ) (texts : List (List ℕ)) (recovered : Recovered)
    : Type 0 where
  pub chain_is : recovered.chain ≡ last_link digest texts
  pub count_is : recovered.texts ≡ length texts
  pub end_is : (IsFile digest bytes texts IsEnd × (recovered.end ≡ length (file_of digest texts)))
      ⊎ (IsPartOfHead digest bytes × (texts ≡ []) × (recovered.end ≡ 0))

-- its number from 1, where the texts before it (`past`, the newest first) end, and its digest
abbrev pub record_at : List ℕ → List (List ℕ) → List ℕ → Record
record_at digest past text = record {
  number = length past + 1;
  place = length (file_of digest (reverse past));
  digest = last_link digest (reverse (text ∷ past));
}

-- the file begins with its head, or is a prefix of it
abbrev pub HasHead : List ℕ → List ℕ → Type 0
HasHead digest bytes = take (length (head digest)) bytes ≡ take (length bytes) (head digest)

-- the file begins with the head of some journal
abbrev pub HasSomeHead : List ℕ → Type 0
HasSomeHead bytes = (digest rest : List ℕ) × (length digest ≡ 32) × (bytes ≡ head digest ++ rest)

-- it has another head; or after some texts, at `place`, comes damage, or a text that is refused
abbrev pub IsFound : (List (List ℕ) → List ℕ → Type 0) → List ℕ → List ℕ → JournalFault → Type 0
IsFound refuses digest bytes fault.Unknown = (HasHead digest bytes → ⊥) × (HasSomeHead bytes → ⊥)
IsFound refuses digest bytes fault.Setup = (HasHead digest bytes → ⊥) × HasSomeHead bytes
IsFound refuses digest bytes (fault.Damaged place) = (texts : List (List ℕ))
    × IsFile digest bytes texts (λ found. found ≡ damaged) × (place ≡ length (file_of digest texts))
IsFound refuses digest bytes (fault.Refused place) = (texts : List (List ℕ)) × (text : List ℕ)
    × IsFile digest bytes texts (λ found. found ≡ whole text)
    × (place ≡ length (file_of digest texts)) × refuses (reverse texts) text
IsFound refuses digest bytes fault.NoMemory = Unit {0}
IsFound refuses digest bytes fault.Failed = ⊥
IsFound refuses digest bytes fault.Unread = ⊥
