-- Arrays of JSON that are written with a comma before each item, the first of which the opening
-- bracket replaces at the end.
--     with_comma value item, with_commas value items      an item with a comma before it, and so
--         each of some items
--     array_ended start text      a text whose items from a place on become an array
use Rattle.std.specs.Prelude.{ℕ, List, ◌∷◌, ◌++◌, codes, length, nat_lt, slice_set, if◌then◌else◌}
use Rattle.std.specs.List.{flat_map}
use Rattle.serde_json.specs.Data.{Data}
use Rattle.serde_json.specs.Written.{compact_text}

-- an item with a comma before it
abbrev pub with_comma : {A : Type 0} → (A → Data) → A → List ℕ
with_comma value item = 44 ∷ compact_text (value item)

-- each of some items with a comma before it
abbrev pub with_commas : {A : Type 0} → (A → Data) → List A → List ℕ
with_commas value items = flat_map (with_comma value) items

-- the first comma becomes the bracket, if there is one at that place, and the array is closed
abbrev pub array_ended : ℕ → List ℕ → List ℕ
array_ended start text =
    (if nat_lt start (length text) then slice_set text start 91 else text ++ codes "[") ++ codes "]"
