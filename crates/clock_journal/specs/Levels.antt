-- How two files are brought to the same bytes, or why not. `None` is a disk or a source whose bytes
-- contracts do not see.
--     AreSeen first second one other      the sources have the bytes of the disks
--     Bytes one other      bytes that two sources may have
--     IsNotLevel one other First Second fault      they differ, and both disks are unchanged; or a
--         call of a disk or a source has failed
use Rattle.std.specs.Prelude.{◌≡◌, ◌<◌, ◌⊎◌, ℕ, List, Option, Some, None, length}
use Rattle.clock_journal.specs.Mirrors.{IsCommon}
use Rattle.clock_journal.specs.Sources.{HasBytes}
use Rattle.clock_journal.specs.declared.mirror.LevelFault.{LevelFault}
use Rattle.clock_journal.specs.declared.mirror.LevelFault.TheVariants.{Differs, Failed}

-- contracts see both disks and their sources, which have the same bytes; or they see neither disk
abbrev pub AreSeen : Option (List ℕ) → Option (List ℕ) → Option (List ℕ) → Option (List ℕ) → Type 0
AreSeen first second one other = ((bytes : List ℕ) × (behind : List ℕ) × (first ≡ Some bytes)
    × (second ≡ Some behind) × (one ≡ Some bytes) × (other ≡ Some behind))
    ⊎ ((first ≡ None) × (second ≡ None))

-- all bytes of two sources, if these report them
pub record Bytes (first second : Option (List ℕ)) : Type 0 where
  pub one : List ℕ
  pub other : List ℕ
  pub of_first : HasBytes first one
  pub of_second : HasBytes second other

-- at this place, both have other bytes
pub record IsPlace (one other : List ℕ) (place : ℕ) : Type 0 where
  pub common : IsCommon one other place
  pub in_one : place < length one
  pub in_other : place < length other

-- at `Differs`, both have other bytes at this place, and the disks are unchanged
abbrev pub IsNotLevel : List ℕ → List ℕ → Type 0 → Type 0 → LevelFault → Type 0
IsNotLevel one other First Second (Differs place) = IsPlace one other place × First × Second
IsNotLevel one other First Second Failed = Unit {0}
