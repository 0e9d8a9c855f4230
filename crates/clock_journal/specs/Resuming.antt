-- How a machine and a journal resume from a file, or do not.
--     NoneRefused refuses past texts      no text is refused after the texts before it
--     IsNotResumed refuses stands digest bytes before after fault      the file has this fault or
--         was not read, or a call of the disk failed after all texts were taken
--     IsNotRefused fault      memory ran out, a call of the disk has failed, or reading has
--     IsLeftBy old new fault      what a call that did not resume did to the file
--     LeavesWhatWas bytes old new      of a file with these bytes, a crash leaves what one before
--         would leave
--     Resumes refuses stands bytes old new recovered      the journal of these bytes continues
--     DoesNotResume refuses stands bytes old new before after fault      it does not
use Rattle.std.specs.Prelude.{◌≡◌, ◌⊎◌, ℕ, List, [], ◌∷◌, Some, true, reverse}
use Rattle.clock_device.specs.Reports.{SourceReport}
use Rattle.clock_journal.specs.Crash.{BeginsWithTexts, LeavesJournal, StaysSo}
use Rattle.clock_journal.specs.Logged.{HasTexts, JournalState}
use Rattle.clock_journal.specs.Recovering.{AreTextsOf}
use Rattle.clock_journal.specs.Sources.{IsNotRead}
use Rattle.clock_journal.specs.declared.recovery.Recovered.{Recovered}
use Rattle.clock_journal.specs.declared.recovery.JournalFault.{JournalFault}
use Rattle.clock_journal.specs.declared.recovery.JournalFault.TheVariants.{Failed, NoMemory, Unread}

-- no text, the oldest first, is refused after `past`, the newest first, and the texts before it
abbrev pub NoneRefused : (List (List ℕ) → List ℕ → Type 0) → List (List ℕ) → List (List ℕ) → Type 0
NoneRefused refuses past [] = Unit {0}
NoneRefused refuses past (text ∷ texts) =
    (refuses past text → ⊥) × NoneRefused refuses (text ∷ past) texts

-- the file has this fault, memory ran out, or it was not read; at `Failed`, the machine stands for
-- all of its texts
abbrev pub IsNotResumed : (List (List ℕ) → List ℕ → Type 0) → (List (List ℕ) → Type 0) → List ℕ
    → List ℕ → SourceReport → SourceReport → JournalFault → Type 0
IsNotResumed refuses stands digest bytes before after Failed =
    (recovered : Recovered) × (texts : List (List ℕ)) × AreTextsOf digest bytes texts recovered
    × stands (reverse texts)
IsNotResumed refuses stands digest bytes before after fault =
    IsNotRead refuses digest bytes before after fault

-- memory ran out, a call of the disk has failed, or the file could not be read
abbrev pub IsNotRefused : JournalFault → Type 0
IsNotRefused fault = (fault ≡ NoMemory) ⊎ ((fault ≡ Failed) ⊎ (fault ≡ Unread))

-- at `Failed`, a call of the disk has failed; at any other fault, the file and its moments are old
abbrev pub IsLeftBy : JournalState → JournalState → JournalFault → Type 0
IsLeftBy old new Failed = new.has_failed ≡ true
IsLeftBy old new fault = new ≡ old

-- if these are all bytes of the disk, and a crash before would leave the journal of some texts, or
-- a file that begins with it, so does a crash at any moment since
pub record LeavesWhatWas (bytes : List ℕ) (old new : JournalState) : Type 0 where
  pub crash : (synced : List ℕ) (texts : List (List ℕ)) (least : ℕ) → old.written ≡ Some bytes
      → old.synced ≡ Some synced
      → StaysSo old new (λ left. LeavesJournal old.chain left texts least)
  pub any_tail : (synced : List ℕ) (texts : List (List ℕ)) → old.written ≡ Some bytes
      → old.synced ≡ Some synced → StaysSo old new (λ left. BeginsWithTexts old.chain left texts)

-- the machine took all texts of these bytes, and refuses none. If they are all bytes of the disk,
-- it has these texts
pub record Resumes (refuses : List (List ℕ) → List ℕ → Type 0) (stands : List (List ℕ) → Type 0)
    (bytes : List ℕ) (old new : JournalState) (recovered : Recovered) : Type 0 where
  pub texts : List (List ℕ)
  pub are : AreTextsOf old.chain bytes texts recovered
  pub taken : stands (reverse texts)
  pub accepted : NoneRefused refuses [] texts
  pub has : old.written ≡ Some bytes → HasTexts old.chain texts new
  pub leaves : LeavesWhatWas bytes old new

-- why not. Of what a crash left of a journal with no text that the machine refuses, it is only
-- memory, the disk, or reading
pub record DoesNotResume (refuses : List (List ℕ) → List ℕ → Type 0)
    (stands : List (List ℕ) → Type 0) (bytes : List ℕ) (old new : JournalState)
    (before after : SourceReport) (fault : JournalFault) : Type 0 where
  pub why : IsNotResumed refuses stands old.chain bytes before after fault
  pub own : (texts : List (List ℕ)) (least : ℕ) → NoneRefused refuses [] texts
      → LeavesJournal old.chain bytes texts least → IsNotRefused fault
  pub left : IsLeftBy old new fault
  pub leaves : LeavesWhatWas bytes old new
