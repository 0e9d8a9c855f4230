-- What a JSON text means, by the tree of values that serde_json reads: the value of some bytes, and
-- its parts. An object has each key once: if a document repeats one, the reader uses the last.
--     json bytes      the value that the bytes are
--     number_at key value, text_at key value, items_at key value      the member of a key
--     has_members count value      the value is an object with `count` members
--     number_from value      a whole number of 64 bits; RFC 8259's other numbers are none
--     numbers_from value      a list of whole numbers
--     each meaning items      the meanings of all items, if each has one
use Rattle.std.specs.Prelude.{ℕ, Bool, false, List, [], ◌∷◌, ◌==◌, if◌then◌else◌, Option, Some}
use Rattle.std.specs.Prelude.{None, option_and_then}
use Rattle.std.specs.Str.{is_utf8}
use Rattle.serde_json.specs.Data.{Data, Members, Items, no_items, item}
use Rattle.serde_json.specs.Find.{get, as_number, as_u64, as_str, as_array, as_object}
use Rattle.serde_json.specs.Events.{members_len}
use Rattle.serde_json.specs.Read.{read}

-- the JSON value that the bytes are (RFC 8259, as serde_json's reading definition has it)
unfoldable pub json : List ℕ → Option Data
json bytes = if is_utf8 bytes then read bytes else None

-- a whole number from 0 to 2^64 - 1
abbrev pub number_from : Data → Option ℕ
number_from value = option_and_then as_u64 (as_number value)

abbrev pub number_at : List ℕ → Data → Option ℕ
number_at key value = option_and_then number_from (get key value)

-- a text under a key, by its bytes, escapes undone
abbrev pub text_at : List ℕ → Data → Option (List ℕ)
text_at key value = option_and_then as_str (get key value)

abbrev pub items_at : List ℕ → Data → Option Items
items_at key value = option_and_then as_array (get key value)

abbrev pub is_count : ℕ → Option Members → Bool
is_count count None = false
is_count count (Some members) = members_len members == count

-- With `count` members and `count` keys looked up, an object has these keys and no other.
abbrev pub has_members : ℕ → Data → Bool
has_members count value = is_count count (as_object value)

-- in a `do` block: continue with the value if there is one
infixl 10 ◌>>=◌
abbrev pub ◌>>=◌ : {A B : Type 0} → Option A → (A → Option B) → Option B
None >>= f = None
(Some x) >>= f = f x

-- the meaning of each item of a list, if all have one
abbrev pub each : {A : Type 0} → (Data → Option A) → Items → Option (List A)
each meaning no_items = Some []
each meaning (item value items) = do
  first ← meaning value
  rest ← each meaning items
  Some (first ∷ rest)

-- [N,..]: a list of whole numbers
unfoldable pub numbers_from : Data → Option (List ℕ)
numbers_from value = option_and_then (each number_from) (as_array value)
