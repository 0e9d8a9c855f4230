-- How many bytes are allocated for the text of a page, by its shape only, and what
-- is written there.
--     most_text value      each number and each null counts as 20 bytes, and each name as 34
--     IsHeaded head value result      the page after a head, or an allocation of just this
--         size was refused
use Rattle.std.specs.Prelude.{◌≡◌, ℕ, ◌+◌, ◌++◌, List, Result, Ok, Err, length}
use Rattle.serde_json.specs.Written.{compact_text}
use Rattle.serde_json.specs.Data.{Data, null, boolean, number, string, array, object, Items}
use Rattle.serde_json.specs.Data.{no_items, item, Members, no_members, member}

-- a number has 20 digits at most, and a name 32 characters and two quotes
abbrev mutual
  pub most_text : Data → ℕ
  most_text null = 20
  most_text (boolean truth) = 5
  most_text (number n) = 20
  most_text (string name) = 34
  most_text (array items) = 2 + most_items items
  most_text (object members) = 2 + most_members members

  -- the items of a list, each after a bracket or a comma
  pub most_items : Items → ℕ
  most_items no_items = 0
  most_items (item value items) = 1 + most_text value + most_items items

  -- the members of an object, each after a bracket or a comma, its key in quotes and a colon
  pub most_members : Members → ℕ
  most_members no_members = 0
  most_members (member key value members) = 4 + length key + most_text value + most_members members

-- the head and the value's compact text, or the most that this takes by its shape
abbrev pub IsHeaded : List ℕ → Data → Result (List ℕ) ℕ → Type 0
IsHeaded head value (Ok text) = text ≡ head ++ compact_text value
IsHeaded head value (Err room) = room ≡ most_text value
