-- Two files that are compared, and a disk to which a file is copied, piece by piece.
--     AreSame old new others_old others_new place      the same bytes were read of both, this many
--     HaveEnds old new others_old others_new here there      both were read to these last pieces
--     Differ one other fault      the sources differ at this place, or one could not be read
--     IsCopied old_source source missing old new      what was missing was appended, and what was
--         read since
--     AreCopied source missing old new      a file got what was missing, and all that a source had
--     IsCopying source missing old new      at each moment, a disk had a prefix of these
use Rattle.std.specs.Prelude.{◌≡◌, ◌≤◌, ◌++◌, ℕ, List, Option, None, length, min, take, false}
use Rattle.clock_device.specs.Streams.{HasRead, HasWritten, IsReadOut}
use Rattle.clock_journal.specs.Levels.{Bytes, IsPlace}
use Rattle.clock_journal.specs.Mirrors.{DiskState, RunsTo}
use Rattle.clock_journal.specs.Sources.{HasBytes}
use Rattle.clock_journal.specs.declared.mirror.LevelFault.{LevelFault}
use Rattle.clock_journal.specs.declared.mirror.LevelFault.TheVariants.{Differs, Failed}

-- the same bytes were read of two sources
pub record AreSame (old new others_old others_new : Option (List ℕ)) (place : ℕ) : Type 0 where
  pub common : List ℕ
  pub read : HasRead old new common
  pub other_read : HasRead others_old others_new common
  pub place_is : place ≡ length common

-- a disk has what was missing, and then all that was read of a source
pub record IsCopied (old_source source : Option (List ℕ)) (missing : List ℕ)
    (old new : DiskState) : Type 0 where
  pub bytes : List ℕ
  pub read : HasRead old_source source bytes
  pub written : HasWritten old.written new.written (missing ++ bytes)
  pub unseen : old.written ≡ None → new.written ≡ None
  pub synced : new.synced ≡ old.synced
  pub unfailed : new.has_failed ≡ false
  pub runs : (before : List ℕ) → RunsTo before (before ++ (missing ++ bytes)) old new

-- a file has what was missing, and then all that a source had
abbrev pub AreCopied : Option (List ℕ) → List ℕ → Option (List ℕ) → Option (List ℕ) → Type 0
AreCopied source missing old new =
    (rest : List ℕ) × HasBytes source rest × HasWritten old new (missing ++ rest)

-- a disk is on its way to what was missing, and all that a source had
abbrev pub IsCopying : Option (List ℕ) → List ℕ → DiskState → DiskState → Type 0
IsCopying source missing old new = (rest : List ℕ) × HasBytes source rest
    × ((bytes : List ℕ) → RunsTo bytes (bytes ++ (missing ++ rest)) old new)

-- both had the same bytes, and then these pieces, of which one is a prefix of the other: the
-- source of the shorter one has no byte left
pub record HaveEnds (old new others_old others_new : Option (List ℕ)) (here there : List ℕ) : Type 0
  where
    pub common : List ℕ
    pub read : HasRead old new (common ++ here)
    pub other_read : HasRead others_old others_new (common ++ there)
    pub same : take (min (length here) (length there)) here
        ≡ take (min (length here) (length there)) there
    pub out : length here ≤ length there → IsReadOut new
    pub other_out : length there ≤ length here → IsReadOut others_new

-- at `Differs`, both have other bytes at this place
abbrev pub Differ : Option (List ℕ) → Option (List ℕ) → LevelFault → Type 0
Differ first second (Differs place) =
    (bytes : Bytes first second) × IsPlace bytes.one bytes.other place
Differ first second Failed = Unit {0}
