-- How a journal resumes from a source, or does not: from what was read of it, and from what was done with the disk.
use Rattle.std.proofs.Common.{◌≡◌, inl, inr, ℕ, List, [], Some, refl, subst, true, reverse}
use Rattle.clock_device.specs.Reports.{SourceReport}
use Rattle.clock_journal.specs.Crash.{BeginsWithTexts, LeavesJournal}
use Rattle.clock_journal.specs.Logged.{HasTexts, JournalState}
use Rattle.clock_journal.specs.Recovering.{AreTextsOf}
use Rattle.clock_journal.specs.Resuming.{DoesNotResume, LeavesWhatWas}
use Rattle.clock_journal.specs.Resuming.{NoneRefused, Resumes}
use Rattle.clock_journal.specs.Sources.{IsNotRead}
use Rattle.clock_journal.specs.declared.recovery.Recovered.{Recovered}
use Rattle.clock_journal.specs.declared.recovery.JournalFault.{JournalFault}
use Rattle.clock_journal.specs.declared.recovery.JournalFault.TheVariants as fault
use Rattle.clock_journal.proofs.OwnStarts.{own_starts}
use Rattle.clock_journal.proofs.Passing.{leave_none}

unchanged : (bytes : List ℕ) (at : JournalState) → LeavesWhatWas bytes at at
unchanged bytes at = record {
  crash = λ synced texts least is on_disk before.
      leave_none at.moments (λ left. LeavesJournal at.chain left texts least);
  any_tail = λ synced texts is on_disk before.
      leave_none at.moments (λ left. BeginsWithTexts at.chain left texts);
}

module _ (refuses : List (List ℕ) → List ℕ → Type 0) (stands : List ℕ → List (List ℕ) → Type 0) (bytes : List ℕ) where
  -- the source was not read, or has a fault
  unread : (at : JournalState) (before after : SourceReport) (why : JournalFault)
      → IsNotRead refuses at.chain bytes before after why
      → DoesNotResume refuses (stands at.chain) bytes at at before after why
  unread at before after fault.Unknown found = record {
    why = found;
    own = λ texts least fine leaves. own_starts refuses at.chain bytes texts least fault.Unknown fine leaves found;
    left = refl;
    leaves = unchanged bytes at;
  }
  unread at before after fault.Setup found = record {
    why = found;
    own = λ texts least fine leaves. own_starts refuses at.chain bytes texts least fault.Setup fine leaves found;
    left = refl;
    leaves = unchanged bytes at;
  }
  unread at before after (fault.Damaged place) found = record {
    why = found;
    own = λ texts least fine leaves.
        own_starts refuses at.chain bytes texts least (fault.Damaged place) fine leaves found;
    left = refl;
    leaves = unchanged bytes at;
  }
  unread at before after (fault.Refused place) found = record {
    why = found;
    own = λ texts least fine leaves.
        own_starts refuses at.chain bytes texts least (fault.Refused place) fine leaves found;
    left = refl;
    leaves = unchanged bytes at;
  }
  unread at before after fault.NoMemory found = record {
    why = found;
    own = λ texts least fine leaves. inl refl;
    left = refl;
    leaves = unchanged bytes at;
  }
  unread at before after fault.Failed found = absurd found
  unread at before after fault.Unread found = record {
    why = found;
    own = λ texts least fine leaves. inr (inr refl);
    left = refl;
    leaves = unchanged bytes at;
  }

  module _ (at now : JournalState) (view : at ≡ now) where
    pub not_read : (before after : SourceReport) (why : JournalFault)
        → IsNotRead refuses at.chain bytes before after why
        → DoesNotResume refuses (stands now.chain) bytes now at before after why
    not_read before after why found =
        subst (λ (one : JournalState). DoesNotResume refuses (stands one.chain) bytes one at before after why) view
        (unread at before after why found)

    module _ (new : JournalState) (recovered : Recovered) (texts : List (List ℕ))
        (placed : AreTextsOf at.chain bytes texts recovered) (taken : stands at.chain (reverse texts))
        (leaves : LeavesWhatWas bytes at new) where
      -- a call of the disk failed
      pub not_started : (before after : SourceReport) → new.has_failed ≡ true
          → DoesNotResume refuses (stands now.chain) bytes now new before after fault.Failed
      not_started before after failed =
          subst (λ (one : JournalState).
          DoesNotResume refuses (stands one.chain) bytes one new before after fault.Failed) view (record {
            why = (recovered, texts, placed, taken);
            own = λ texts least fine leaves. inr (inl refl);
            left = failed;
            leaves = leaves;
          })

      pub started : NoneRefused refuses [] texts → (at.written ≡ Some bytes → HasTexts at.chain texts new)
          → Resumes refuses (stands now.chain) bytes now new recovered
      started accepted has =
          subst (λ (one : JournalState). Resumes refuses (stands one.chain) bytes one new recovered) view (record {
            texts = texts;
            are = placed;
            taken = taken;
            accepted = accepted;
            has = has;
            leaves = leaves;
          })
