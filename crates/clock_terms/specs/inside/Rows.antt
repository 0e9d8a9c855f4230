-- The invariants of the types of rows and of iterators over them. A row is a list of entries, by
-- rising product, each with a positive demand. For each group of 16 products it has the index at
-- which their entries start.
--     ArePositiveDemands from held count      entries by rising product, with products from `from`
--         on and below `count`
--     IsStart held product start      all entries before index `start` are for lower products
--     IsFirstFrom held product place      `place` is the index of the first entry for this product
--         or a higher one
--     IsAtIndex held product place, BelongsAtIndex held product place      the index of a product's
--         entry, or where it would be
--     IsStored held after product demand      the entries after one demand changed
--     group_size      the number of products in a group
--     AreStarts held starts      the index at which the entries of each group start
--     IsPackedRow count held starts capacity      the invariant of `Row`
--     IsPackedWalk count held given      the invariant of `PositiveDemands`
use Rattle.std.specs.Prelude.{◌≡◌, ◌==◌, if◌then◌else◌, ℕ, ◌+◌, ◌*◌, ◌≤◌, ◌<◌, List, [], ◌∷◌}
use Rattle.std.specs.Prelude.{length, slice_index, slice_index_or}
use Rattle.std.specs.List.{AllWithin}
use Rattle.clock_terms.specs.declared.held_list.PositiveDemand.{PositiveDemand}
use Rattle.clock_terms.specs.HeldDemands.{demand_for}
use Rattle.clock_terms.specs.Limits.{most_products, most_supply}

-- entries by rising product, with products from `from` on and below `count`, each with a demand of
-- 1 to 1,000 blocks
unfoldable pub ArePositiveDemands : ℕ → List PositiveDemand → ℕ → Type 0
ArePositiveDemands from [] count = from ≤ count
ArePositiveDemands from (one ∷ held) count = (from ≤ one.product) × (0 < one.demand)
    × (one.demand ≤ most_supply) × ArePositiveDemands (one.product + 1) held count

-- all entries before index `start` are for lower products
abbrev pub IsStart : List PositiveDemand → ℕ → ℕ → Type 0
IsStart held product start =
    (start ≤ length held) × AllWithin (λ one. one.product < product) held 0 start

-- all entries before index `place` are for lower products, and the one there is not
abbrev pub IsFirstFrom : List PositiveDemand → ℕ → ℕ → Type 0
IsFirstFrom held product place = IsStart held product place
    × ((d : PositiveDemand) → place < length held → product ≤ (slice_index_or held place d).product)

-- the entry at index `place` is for this product, and those before it are for lower ones
abbrev pub IsAtIndex : List PositiveDemand → ℕ → ℕ → Type 0
IsAtIndex held product place = IsStart held product place × (place < length held)
    × ((d : PositiveDemand) → (slice_index_or held place d).product ≡ product)

-- no entry is for this product; one would be inserted at index `place`
abbrev pub BelongsAtIndex : List PositiveDemand → ℕ → ℕ → Type 0
BelongsAtIndex held product place = IsStart held product place
    × ((d : PositiveDemand) → place < length held → product < (slice_index_or held place d).product)

-- after a change, the product has this demand, and each other product the demand it had
abbrev pub IsStored : List PositiveDemand → List PositiveDemand → ℕ → ℕ → Type 0
IsStored held after product demand = (other : ℕ)
    → demand_for after other ≡ (if product == other then demand else demand_for held other)

-- the number of products in a group
abbrev pub group_size : ℕ
group_size = 16

-- for each group of products, the index of its first entry, or of the next entry if it has none
abbrev pub AreStarts : List PositiveDemand → List ℕ → Type 0
AreStarts held starts = (group : ℕ) → group < length starts
    → IsFirstFrom held (group * group_size) (slice_index starts group)

-- A row of `count` products: entries in order, capacity for one entry for each product, and a start
-- for each group.
pub record IsPackedRow (count : ℕ) (held : List PositiveDemand) (places : List ℕ)
    (capacity : ℕ) : Type 0 where
  pub few : count ≤ most_products
  pub order : ArePositiveDemands 0 held count
  pub room : count ≤ capacity
  pub searched : count < group_size * length places
  pub groups : length places ≤ most_products
  pub starts : AreStarts held places

-- an iterator over entries in order has visited the first `given` of them
abbrev pub IsPackedWalk : ℕ → List PositiveDemand → ℕ → Type 0
IsPackedWalk count held given = ArePositiveDemands 0 held count × (given ≤ length held)
