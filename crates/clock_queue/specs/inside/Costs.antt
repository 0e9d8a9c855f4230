-- A list of costs, and the bounds by which a search skips blocks of it.
--     spent      a cost above every limit
--     AreFrom least costs from to      each cost from one index up to another is at least `least`
--     AreAbove limit costs from to      each cost from one index up to another is above the limit
--     IsFirstWithin costs limit place      the first cost within the limit has this index
--     HasBounds costs bounds passed      the bounds fit the costs
--     with_bound bounds block      the bounds with one for this block
use Rattle.std.specs.Prelude.{ℕ, ◌+◌, ◌*◌, ◌-◌, ◌^◌, ◌<◌, ◌≤◌, ◌==◌, List, [], ◌∷◌, ◌++◌}
use Rattle.std.specs.Prelude.{if◌then◌else◌, length, slice_index}

-- the cost that a search never finds: the greatest number of 32 bits
abbrev pub spent : ℕ
spent = 2 ^ 32 - 1

-- each cost from index `from` up to `to` is at least `least`
abbrev pub AreFrom : ℕ → List ℕ → ℕ → ℕ → Type 0
AreFrom least costs from to =
    (place : ℕ) → from ≤ place → place < to → place < length costs → least ≤ slice_index costs place

-- each cost from index `from` up to `to` is above the limit
abbrev pub AreAbove : ℕ → List ℕ → ℕ → ℕ → Type 0
AreAbove limit costs from to =
    (place : ℕ) → from ≤ place → place < to → place < length costs → limit < slice_index costs place

-- the cost at the index is within the limit, and none before it is
pub record IsFirstWithin (costs : List ℕ) (limit : ℕ) (place : ℕ) : Type 0 where
  pub within : place < length costs
  pub cost : slice_index costs place ≤ limit
  pub before : AreAbove limit costs 0 place

-- Each block of 64 costs has a bound, and no cost is below the bound of its block. All costs of the
-- blocks that are passed are spent.
pub record HasBounds (costs bounds : List ℕ) (passed : ℕ) : Type 0 where
  pub covered : length costs ≤ 64 * length bounds
  pub no_more : 64 * length bounds ≤ length costs + 64
  pub below : (block : ℕ) → block < length bounds
      → AreFrom (slice_index bounds block) costs (64 * block) (64 * block + 64)
  pub passed_within : passed ≤ length bounds
  pub passed_spent : AreFrom spent costs 0 (64 * passed)

-- the bounds, with one for this block if it is the next one
abbrev pub with_bound : List ℕ → ℕ → List ℕ
with_bound bounds block = if block == length bounds then bounds ++ spent ∷ [] else bounds
