-- Digits that are counted sixteen at a time.
--     AreDigits bytes at count      `count` bytes from an index on are digits
--     weight place      what the digit at this index counts, of eight of which the last counts one
--     HasCounted bytes at count i value      of `count` digits, those among the first i are counted
use Rattle.std.specs.Prelude.{◌≡◌, ◌≤◌, ◌<◌, ◌+◌, ◌-◌, ◌*◌, ◌^◌, ℕ, List, [], ◌∷◌, take, drop}
use Rattle.std.specs.Prelude.{get_or, slice_index_or}
use Rattle.std.specs.Str.Parse.{AllDigits, digits_value}

-- `count` bytes from an index on are digits
abbrev pub AreDigits : List ℕ → ℕ → ℕ → Type 0
AreDigits bytes at count =
    (k : ℕ) → k < count → (48 ≤ get_or bytes (at + k) 0) × (get_or bytes (at + k) 0 ≤ 57)

-- a million and so on down to one; what follows the eight counts nothing
abbrev pub weight : ℕ → ℕ
weight place = slice_index_or (10000000 ∷ 1000000 ∷ 100000 ∷ 10000 ∷ 1000 ∷ 100 ∷ 10 ∷ 1 ∷ 0 ∷ 0 ∷ 0
    ∷ 0 ∷ 0 ∷ 0 ∷ 0 ∷ 0 ∷ []) place 0

-- the value is that of the digits so far, as if the others were zeros
pub record HasCounted (bytes : List ℕ) (at count i value : ℕ) : Type 0 where
  pub done : ℕ
  pub few : done ≤ count
  pub upto : done ≤ i
  pub all : done < i → done ≡ count
  pub digits : AllDigits 10 (take done (drop at bytes))
  pub is : value ≡ digits_value 10 (take done (drop at bytes)) * 10 ^ (count - done)
