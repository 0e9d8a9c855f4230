-- Texts of JSON that are not written to their end yet.
--     item_text later value      an item of an array, with the comma before it
--     rest_text value later xs      the rest of an array, with its closing bracket
--     Adds piece old new      a piece was added at the end of a text
use Rattle.std.specs.Prelude.{◌≡◌, ℕ, List, ◌++◌, Bool}
use Rattle.serde_json.specs.Data.{Data}
use Rattle.serde_json.specs.Written.{compact_text, comma_if, items_text}
use Rattle.clock_views.specs.Values.{items_of}

-- an item of an array, after a comma if it is not the first
abbrev pub item_text : Bool → Data → List ℕ
item_text later value = comma_if later ++ compact_text value

-- what the rest of an array adds, after a comma if something precedes it
abbrev pub rest_text : {A : Type 0} → (A → Data) → Bool → List A → List ℕ
rest_text value later xs = items_text later (items_of value xs)

-- a piece was added at the end of a text
pub record Adds (piece old new : List ℕ) : Type 0 where
  pub is : new ≡ old ++ piece
