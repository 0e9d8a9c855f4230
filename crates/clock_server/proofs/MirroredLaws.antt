-- MirroredGenerationsContinue: the longer of two files that a crash leaves is one that a crash leaves of one disk.
use Rattle.std.proofs.Common.{◌≡◌, inl, inr, ℕ, List, [], ◌∷◌, Option, Some, None, subst, sym, refl}
use Rattle.clock_terms.specs.Limits.{SetupFields}
use Rattle.clock_journal.specs.Disks.{MayBeLeft, Moment}
use Rattle.clock_journal.specs.Mirrors.{LeftOfMirror, MirrorsKeep, longer}
use Rattle.clock_server.specs.Generations.{AreRestarts, Generation, GenerationsContinue, LeftSince, MayLeave, failed}
use Rattle.clock_server.specs.Generations.{served}
use Rattle.clock_server.specs.MirroredGenerations.{AreMirroredRestarts, LeftOfTwoSince, MayBeFound, MayLeaveTwo}
use Rattle.clock_server.specs.MirroredGenerations.{MirroredGenerationsContinue, moment_of}

module _ (keep : MirrorsKeep) where
  left_at : (at : Moment) (one other : List ℕ) → LeftOfMirror (at ∷ []) one other
      → MayBeLeft at.synced at.written (longer one other)
  left_at at one other left = elim (keep (at ∷ []) one other left).0 [
    | inl may ↦ may
    | inr none ↦ absurd none
  ]

  left_since : (old new : Option (List Moment)) (one other : List ℕ) → LeftOfTwoSince old new one other
      → LeftSince old new (longer one other)
  left_since (Some old) new one other left = (left.0, left.1, (keep left.0 one other left.2).0)
  left_since None new one other left = absurd left

  left_longer : (one : Generation) (first second : List ℕ) → MayLeaveTwo one first second
      → MayLeave one (longer first second)
  left_longer (failed found fault end) first second (inl left) = inl (left_at (moment_of found) first second left)
  left_longer (failed found fault end) first second (inr left) =
      inr (left_since found.moments end.moments first second left)
  left_longer (served found exchanges unlogged end) first second left = left_at (moment_of end) first second left

  found_longer : (Leaves : List ℕ → Type 0) (LeavesTwo : List ℕ → List ℕ → Type 0)
      → ((one other : List ℕ) → LeavesTwo one other → Leaves (longer one other)) → (one other : List ℕ)
      → MayBeFound LeavesTwo one other → Leaves (longer one other)
  found_longer Leaves LeavesTwo keeps one other (inl left) = keeps one other left
  found_longer Leaves LeavesTwo keeps one other (inr (first, second, left, same, front)) =
      subst Leaves (sym same) (keeps first second left)

  -- so restarts on two files are restarts on one
  restarts : (setup : SetupFields) (digest : List ℕ) (Leaves : List ℕ → Type 0) (LeavesTwo : List ℕ → List ℕ → Type 0)
      (generations : List Generation) → ((one other : List ℕ) → LeavesTwo one other → Leaves (longer one other))
      → AreMirroredRestarts setup digest LeavesTwo generations → AreRestarts setup digest Leaves generations
  restarts setup digest Leaves LeavesTwo [] keeps follow = tt
  restarts setup digest Leaves LeavesTwo (one ∷ others) keeps follow = (
    follow.0,
    follow.1,
    λ left may. let two = follow.2 left may in
        subst Leaves (sym two.3) (found_longer Leaves LeavesTwo keeps two.0 two.1 two.2),
    restarts setup digest (MayLeave one) (MayLeaveTwo one) others (left_longer one) follow.3,
  )

pub mirrored : MirrorsKeep → GenerationsContinue → MirroredGenerationsContinue
mirrored keep continues setup digest generations follow =
    continues setup digest generations (restarts keep setup digest (λ left. left ≡ []) (λ one other. (one ≡ [])
    × (other ≡ [])) generations (λ one other none. subst (λ (bytes : List ℕ). longer bytes other ≡ []) (sym none.0)
    (subst (λ (bytes : List ℕ). longer [] bytes ≡ []) (sym none.1) refl)) follow)
