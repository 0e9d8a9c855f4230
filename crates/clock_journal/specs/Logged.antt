-- What a journal has on the disk.
--     file_of digest texts      the bytes of the journal of the texts
--     JournalState      what contracts see of a journal
--     HasTexts digest texts journal      the journal of the texts is written and synced
--     IsAppended text old new      a journal that had some texts has this one after them
use Rattle.std.specs.Prelude.{◌≡◌, ◌++◌, [], ◌∷◌, ℕ, Bool, List, Option, Some, All}
use Rattle.clock_journal.specs.Disks.{Moment}
use Rattle.clock_journal.specs.Format.{head, records, last_link, Fits}

-- the bytes of the journal of the texts, the oldest first, for the set-up document with this digest
abbrev pub file_of : List ℕ → List (List ℕ) → List ℕ
file_of digest texts = head digest ++ records digest texts

-- in contracts, a journal: the moments are those that its disk has passed, the last one first
pub record JournalState : Type 0 where
  pub written : Option (List ℕ)
  pub synced : Option (List ℕ)
  pub has_failed : Bool
  pub chain : List ℕ
  pub moments : Option (List Moment)

-- the file is the journal of the texts, all of it synced, and the chain is the last digest
abbrev pub HasTexts : List ℕ → List (List ℕ) → JournalState → Type 0
HasTexts digest texts journal = (journal.written ≡ Some (file_of digest texts))
    × (journal.synced ≡ journal.written) × (journal.chain ≡ last_link digest texts) × All Fits texts

-- if all texts of a journal were on its disk, so are they and this one after them
abbrev pub IsAppended : List ℕ → JournalState → JournalState → Type 0
IsAppended text old new = (digest : List ℕ) (texts : List (List ℕ)) → HasTexts digest texts old
    → HasTexts digest (texts ++ text ∷ []) new
