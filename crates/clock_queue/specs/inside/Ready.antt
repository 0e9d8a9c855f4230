-- The indices of the requests to be tested next.
--     places_of heap      the indices in a heap
--     IsMarked heap marks      the heap is in order, and each marked index is in it
--     IsAdded old place new      the index was added, unless it was there
use Rattle.std.specs.Prelude.{◌≡◌, ℕ, ◌⊎◌, List, ◌∷◌, Bool, true, false, map, slice_index_or}
use Rattle.std.specs.BinaryHeap.{IsHeap}
use Rattle.std.specs.List.{Contains}
use Rattle.std.specs.List.Sorted.{IsPermutation}
use Rattle.std.specs.Ordering.{nat_cmp}
use Rattle.std.specs.declared.cmp.Reverse.{Reverse}

-- the indices in a heap
abbrev pub places_of : List (Reverse ℕ) → List ℕ
places_of heap = map (λ (item : Reverse ℕ). item.0) heap

-- the least index is at the top, and each marked index is in the heap
pub record IsMarked (heap : List (Reverse ℕ)) (marks : List Bool) : Type 0 where
  pub in_order : IsHeap (λ (x y : Reverse ℕ). nat_cmp y.0 x.0) heap
  pub marked : (place : ℕ) → slice_index_or marks place false ≡ true
      → Contains (places_of heap) place

-- the index is in the list, which is as before
pub record WasThere (old : List ℕ) (place : ℕ) (new : List ℕ) : Type 0 where
  pub there : Contains old place
  pub same : new ≡ old

-- the index was in the list before, or was added to it
abbrev pub IsAdded : List ℕ → ℕ → List ℕ → Type 0
IsAdded old place new = WasThere old place new ⊎ IsPermutation (place ∷ old) new
