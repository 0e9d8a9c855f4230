-- Two disks with the same bytes, of which a crash may lose one.
--     DiskState, MirrorState      what contracts see of a disk, and of both
--     state_of ghosts disk      what they see of this disk
--     AreAlike first second      two disks have the same bytes, and the same of them synced
--     IsPrefix one other, IsPartOf left written      one is a prefix of the other, perhaps empty
--     IsUnder joint one      at this moment, a disk had no more bytes than at the joint one, and no
--         fewer of them synced
--     RunsUnder joint old new      all moments of a disk in a call are under this one
--     LeftOfTwo first second one other      a crash leaves these files of two disks: of one of them
--         any prefix, and of the other what a disk leaves
--     LeftOfMirror moments one other      a crash at one of the mirror's moments may leave these
--     longer, shorter      the longer of two files, and the other one
--     IsCommon one other place      two files have this many bytes in common
--     IsOnWay, RunsTo      how a disk is brought from its bytes to all of them
--     MirrorsKeep      the longer file is what a disk may leave, and begins with the other
--     StartsKeep      the same of a crash in a start, while the longer file is copied
use Rattle.std.specs.Prelude.{◌≡◌, ◌<◌, ◌≤◌, ◌⊎◌, ◌++◌, ℕ, Bool, List, [], ◌∷◌, length, take}
use Rattle.std.specs.Prelude.{All, get_or}
use Rattle.std.specs.Prelude.{Option, Some, None, option_map, nat_lt, if◌then◌else◌}
use Rattle.clock_journal.specs.Disks.{CouldBeLeft, MayBeLeft, Moment}
use Rattle.clock_journal.specs.declared.durable.Durable.{Ghosts}

-- in contracts, a disk: the moments are those that it has passed, the last one first
pub record DiskState : Type 0 where
  pub written : Option (List ℕ)
  pub synced : Option (List ℕ)
  pub has_failed : Bool
  pub moments : Option (List Moment)

-- what contracts see of this disk; for a disk of type `D`, the ghosts are `D.Durable`
abbrev pub state_of : {D : Type 0} → Ghosts D → D → DiskState
state_of ghosts disk = record {
  written = ghosts.written disk;
  synced = ghosts.synced disk;
  has_failed = ghosts.has_failed disk;
  moments = ghosts.moments disk;
}

-- in contracts, a mirror: its two disks
pub record MirrorState : Type 0 where
  pub first : DiskState
  pub second : DiskState

-- no more bytes are synced than are written, if contracts see them
abbrev pub IsWithin : Option (List ℕ) → Option (List ℕ) → Type 0
IsWithin synced written = (least all : List ℕ) → synced ≡ Some least → written ≡ Some all
    → length least ≤ length all

-- both have the same bytes, and the same of them synced
abbrev pub AreAlike : DiskState → DiskState → Type 0
AreAlike first second = (first.written ≡ second.written) × (first.synced ≡ second.synced)
    × IsWithin first.synced first.written

-- one is a prefix of the other; it may be empty
abbrev pub IsPrefix : List ℕ → List ℕ → Type 0
IsPrefix one other = (count : ℕ) × (one ≡ take count other)

-- any prefix of what was written, if contracts see it: a file that was emptied, cut, or lost
abbrev pub IsPartOf : List ℕ → Option (List ℕ) → Type 0
IsPartOf left (Some written) = IsPrefix left written
IsPartOf left None = ⊥

-- a disk without a call under way: what is synced, and what is written
abbrev pub at_rest : DiskState → Moment
at_rest disk = record { synced = disk.synced; written = disk.written }

-- no more bytes than at the joint moment, and no fewer synced
pub record IsUnder (joint one : Moment) : Type 0 where
  pub all : List ℕ
  pub least : List ℕ
  pub written : List ℕ
  pub synced : List ℕ
  pub joint_written : joint.written ≡ Some all
  pub joint_synced : joint.synced ≡ Some least
  pub has_written : one.written ≡ Some written
  pub has_synced : one.synced ≡ Some synced
  pub front : IsPrefix written all
  pub enough : length least ≤ length synced
  pub within : length least ≤ length written

-- before a call, and at each moment that a disk passed in it, it was under the joint moment
pub record RunsUnder (joint : Moment) (old new : DiskState) : Type 0 where
  pub before : IsUnder joint (at_rest old)
  pub during : (new.moments ≡ old.moments) ⊎ ((passed : Moment) × IsUnder joint passed
      × (new.moments ≡ option_map (λ (moments : List Moment). passed ∷ moments) old.moments))

-- if contracts see the bytes of the first disk, both disks were under this moment in a call
abbrev pub RunUnder : Moment → MirrorState → MirrorState → Type 0
RunUnder joint old new = (written synced : List ℕ) → old.first.written ≡ Some written
    → old.first.synced ≡ Some synced
    → RunsUnder joint old.first new.first × RunsUnder joint old.second new.second

-- what both have written, and what both have synced
abbrev pub joined : MirrorState → Moment
joined mirror = record { synced = mirror.second.synced; written = mirror.first.written }

-- after a call, both disks are under what they have in common
abbrev pub RestUnder : MirrorState → MirrorState → Type 0
RestUnder old new = (written synced : List ℕ) → old.first.written ≡ Some written
    → old.first.synced ≡ Some synced
    → IsUnder (joined new) (at_rest new.first) × IsUnder (joined new) (at_rest new.second)

-- of one of the two disks any prefix, and of the other what a disk leaves
abbrev pub LeftOfTwo : Moment → Moment → List ℕ → List ℕ → Type 0
LeftOfTwo first second one other =
    (MayBeLeft first.synced first.written one × IsPartOf other second.written)
    ⊎ (IsPartOf one first.written × MayBeLeft second.synced second.written other)

-- a crash at a moment of the mirror, which found both disks under it
abbrev pub LeftOfMirror : List Moment → List ℕ → List ℕ → Type 0
LeftOfMirror [] one other = ⊥
LeftOfMirror (joint ∷ moments) one other = ((first : Moment) × (second : Moment)
    × IsUnder joint first × IsUnder joint second × LeftOfTwo first second one other)
    ⊎ LeftOfMirror moments one other

abbrev pub longer : List ℕ → List ℕ → List ℕ
longer one other = if nat_lt (length one) (length other) then other else one

abbrev pub shorter : List ℕ → List ℕ → List ℕ
shorter one other = if nat_lt (length one) (length other) then one else other

-- the longer file is one that a crash of a single disk may leave, and the other is its prefix
abbrev pub MirrorsKeep : Type 0
MirrorsKeep = (moments : List Moment) (one other : List ℕ) → LeftOfMirror moments one other
    → CouldBeLeft moments (longer one other) × IsPrefix (shorter one other) (longer one other)

-- how two files differ: they have this many bytes in common, and then one ends, or both have others
pub record IsCommon (one other : List ℕ) (place : ℕ) : Type 0 where
  pub in_one : place ≤ length one
  pub in_other : place ≤ length other
  pub same : take place one ≡ take place other
  pub ends : place < length one → place < length other
      → get_or one place 0 ≡ get_or other place 0 → ⊥

-- a moment of a disk that is brought from its bytes to all: these, and a prefix of what is missing
abbrev pub IsOnWay : Option (List ℕ) → List ℕ → List ℕ → Moment → Type 0
IsOnWay synced bytes all moment = (now : List ℕ) × (moment.written ≡ Some now)
    × IsPrefix bytes now × IsPrefix now all × (moment.synced ≡ synced)

-- a disk that had these bytes passed only such moments, if contracts see them
abbrev pub RunsTo : List ℕ → List ℕ → DiskState → DiskState → Type 0
RunsTo bytes all old new = old.written ≡ Some bytes → (since : List Moment)
    × (new.moments ≡ option_map (λ (moments : List Moment). since ++ moments) old.moments)
    × All (IsOnWay old.synced bytes all) since

-- a crash in a start, before the file that was longer is lost: of it a disk leaves what it could
-- leave before, and the longer file is again such a one
abbrev pub StartsKeep : Type 0
StartsKeep = (synced : List ℕ) (bytes : List ℕ) (before : Option (List ℕ)) (behind : List ℕ)
    (first second : Moment) (one other : List ℕ) → IsOnWay (Some synced) bytes bytes first
    → IsOnWay before behind bytes second → MayBeLeft first.synced first.written one
    → IsPartOf other second.written → MayBeLeft (Some synced) (Some bytes) (longer one other)
    × IsPrefix (shorter one other) (longer one other)
