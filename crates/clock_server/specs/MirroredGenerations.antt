-- The third promise: the second headline for a journal in two files, one of which each crash may
-- lose. In plain words: a generation ends, and a crash leaves of one of the two files any prefix of
-- what was written to it, or nothing, and of the other what a disk leaves. The next start continues
-- from the longer file. Then all that the second headline says of one file holds of the two.
--
-- A start that crashes while it copies the longer file is no generation: it leaves the longer file
-- as it was, and of the copy any prefix. If the longer file is lost before the copy is synced, no
-- program could help. So a start that has not listened yet counts to the generation before it.
--     moment_of journal      what is synced and what is written when no call is under way
--     LeftOfTwoSince old new one other      a crash at a moment between two states of a mirror may
--         leave these two files
--     MayLeaveTwo one first second      a crash of this generation may leave these two files
--     MayBeFound Leaves one other      a start may find these, perhaps after copies that crashed
--     AreMirroredRestarts setup digest Leaves generations      each starts on the longer of two
--         files that a crash may have left of the one before
--     MirroredGenerationsContinue      generations on two files continue one auction
use Rattle.std.specs.Prelude.{◌≡◌, ◌⊎◌, ◌++◌, ℕ, List, [], ◌∷◌, Option, Some, None}
use Rattle.clock_terms.specs.Limits.{SetupFields}
use Rattle.clock_journal.specs.Disks.{MayBeLeft, Moment}
use Rattle.clock_journal.specs.Logged.{JournalState}
use Rattle.clock_journal.specs.Mirrors.{IsPrefix, LeftOfMirror, longer, shorter}
use Rattle.clock_server.specs.Generations.{ContinueFrom, Generation, IsGeneration, failed, found_by}
use Rattle.clock_server.specs.Generations.{served}

-- what is synced and what is written when no call is under way
abbrev pub moment_of : JournalState → Moment
moment_of journal = record { synced = journal.synced; written = journal.written }

-- a crash at a moment since then may leave these
abbrev pub LeftOfTwoSince : Option (List Moment) → Option (List Moment) → List ℕ → List ℕ → Type 0
LeftOfTwoSince (Some old) new one other =
    (since : List Moment) × (new ≡ Some (since ++ old)) × LeftOfMirror since one other
LeftOfTwoSince None new one other = ⊥

-- a crash at its end may leave these, or one before or during a start that failed
abbrev pub MayLeaveTwo : Generation → List ℕ → List ℕ → Type 0
MayLeaveTwo (failed found fault end) one other = LeftOfMirror (moment_of found ∷ []) one other
    ⊎ LeftOfTwoSince found.moments end.moments one other
MayLeaveTwo (served found exchanges unlogged end) one other =
    LeftOfMirror (moment_of end ∷ []) one other

-- two such files; or the longer of them, and any prefix of it, where it was copied
abbrev pub MayBeFound : (List ℕ → List ℕ → Type 0) → List ℕ → List ℕ → Type 0
MayBeFound Leaves one other = Leaves one other ⊎ ((first : List ℕ) × (second : List ℕ)
    × Leaves first second × (longer one other ≡ longer first second)
    × IsPrefix (shorter one other) (longer one other))

-- each is a generation, and what a crash leaves of its mirror is the longer of two such files
abbrev pub AreMirroredRestarts : SetupFields → List ℕ → (List ℕ → List ℕ → Type 0)
    → List Generation → Type 0
AreMirroredRestarts setup digest Leaves [] = Unit {0}
AreMirroredRestarts setup digest Leaves (one ∷ others) =
    IsGeneration setup digest one
    × ((synced : List ℕ) × ((found_by one).synced ≡ Some synced))
    × ((left : List ℕ) → MayBeLeft (found_by one).synced (found_by one).written left
    → (first : List ℕ) × (second : List ℕ) × MayBeFound Leaves first second
    × (left ≡ longer first second))
    × AreMirroredRestarts setup digest (MayLeaveTwo one) others

-- generations on two files, which are empty at first, continue one auction
abbrev pub MirroredGenerationsContinue : Type 0
MirroredGenerationsContinue = (setup : SetupFields) (digest : List ℕ)
    (generations : List Generation)
    → AreMirroredRestarts setup digest (λ one other. (one ≡ []) × (other ≡ [])) generations
    → ContinueFrom setup digest [] 0 generations
