-- Fields of an object: its keys by rising bytes, each with the value that was found, where one was.
--     value_at key fields      what was found at a key
--     with_field key value fields      the fields with this found there
--     is_field key fields      the key is one of theirs
--     ReadsField      the value under one of the keys was read
use Rattle.std.specs.Prelude.{◌≡◌, ℕ, List, [], ◌∷◌, Bool, true, false, Option, None}
use Rattle.std.specs.Option.{IsSomeAnd}
use Rattle.std.specs.Ordering.{nat_cmp, match_ordering}
use Rattle.std.specs.Cmp.Lexicographic.{slice_cmp}
pub use Rattle.json.specs.Token.{Token}
use Rattle.serde_json.specs.Data.{Data}
use Rattle.clock_json.specs.Reading.{Fields, ReadsValue}

-- what was found at a key
abbrev pub value_at : List ℕ → Fields → Option Data
value_at key [] = None
value_at key (field ∷ fields) = match_ordering (slice_cmp nat_cmp key field.0)
    (value_at key fields) field.1 (value_at key fields)

-- the fields with this found at a key
abbrev pub with_field : List ℕ → Option Data → Fields → Fields
with_field key value [] = []
with_field key value (field ∷ fields) =
    match_ordering (slice_cmp nat_cmp key field.0)
    (field ∷ with_field key value fields)
    ((key, value) ∷ fields)
    (field ∷ with_field key value fields)

-- a key comes before all keys of the fields
abbrev pub is_before : List ℕ → Fields → Bool
is_before key [] = true
is_before key (field ∷ fields) =
    match_ordering (slice_cmp nat_cmp key field.0) (is_before key fields) false false

-- a key is one of the fields', whose keys ascend from there on
abbrev pub is_field : List ℕ → Fields → Bool
is_field key [] = false
is_field key (field ∷ fields) = match_ordering (slice_cmp nat_cmp key field.0) false
    (is_before key fields) (is_field key fields)

-- the value under a key was read, which is one of the fields', and nothing else is found now
-- that was not before
abbrev pub ReadsField : ℕ → List ℕ → List Token → Fields → List Token → Fields → Type 0
ReadsField levels key old before new after =
    (is_field key before ≡ true)
    × (after ≡ with_field key (value_at key after) before)
    × IsSomeAnd (value_at key after) (λ value. ReadsValue levels old value new)
