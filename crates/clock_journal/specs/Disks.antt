-- What a crash may leave of a file that is only appended to. `None` is a file or disk whose bytes
-- contracts do not see.
--     MayBeLeft synced written left      a crash may leave this
--     Moment      what was synced and what was written at some moment
--     CouldBeLeft moments left      a crash at one of the moments may leave this
--     Passes old new synced written      one more moment has passed
--     LeaveOnly old new Leaves      it holds of all that a crash since then could have left
--     CutsTo old new place result      how truncating ends
use Rattle.std.specs.Prelude.{◌≡◌, ◌≤◌, ◌⊎◌, ◌++◌, ℕ, List, [], ◌∷◌, length, take, Option, Some}
use Rattle.std.specs.Prelude.{None, Result, Ok, Err, option_map}

-- all synced bytes, and a prefix of the rest, if contracts see the bytes
abbrev pub MayBeLeft : Option (List ℕ) → Option (List ℕ) → List ℕ → Type 0
MayBeLeft (Some synced) (Some written) left =
    (count : ℕ) × (length synced ≤ count) × (left ≡ take count written)
MayBeLeft synced written left = ⊥

-- a moment: what is on the disk, and all that was written
pub record Moment : Type 0 where
  pub synced : Option (List ℕ)
  pub written : Option (List ℕ)

-- a crash at one of the moments may leave this
abbrev pub CouldBeLeft : List Moment → List ℕ → Type 0
CouldBeLeft [] left = ⊥
CouldBeLeft (moment ∷ moments) left =
    MayBeLeft moment.synced moment.written left ⊎ CouldBeLeft moments left

-- a call passed one more moment, if contracts see the moments
abbrev pub Passes : Option (List Moment) → Option (List Moment) → Option (List ℕ)
    → Option (List ℕ) → Type 0
Passes old new synced written = new ≡ option_map
    (λ (passed : List Moment). record { synced = synced; written = written } ∷ passed) old

-- it holds of whatever a crash since then could have left, if contracts see the moments
abbrev pub LeaveOnly : Option (List Moment) → Option (List Moment) → (List ℕ → Type 0) → Type 0
LeaveOnly (Some old) new Leaves = (since : List Moment) × (new ≡ Some (since ++ old))
    × ((left : List ℕ) → CouldBeLeft since left → Leaves left)
LeaveOnly None new Leaves = Unit {0}

-- how truncating ends: if it fails, the file was truncated or is unchanged
abbrev pub CutsTo : {U E : Type 0} → Option (List ℕ) → Option (List ℕ) → ℕ → Result U E → Type 0
CutsTo old new place (Ok done) = new ≡ option_map (take place) old
CutsTo old new place (Err failed) = (new ≡ old) ⊎ (new ≡ option_map (take place) old)
