-- The parts of pages. A page is a value of JSON (RFC 8259). Its text is the compact text of that
-- value, without spaces.
--     whole n, whole_or_null n      a whole number, or null if there is none
--     items_of value items, list_of value items      the items of an array, and the array
--     object_of members      an object
--     member_if key number      a member with a number, or no member if there is none
--     true_or_false b      the word for a truth value
--     number_if label number      a label and a number, or nothing if there is none
--     IsPage value text      the text is the value's compact text
use Prim.Native.String.{String}
use Rattle.std.specs.Prelude.{◌≡◌, ℕ, List, [], ◌∷◌, ◌++◌, Bool, true, false, Option, Some, None}
use Rattle.std.specs.Prelude.{codes, decimal}
use Rattle.serde_json.specs.Data.{Data, null, number, unsigned, array, object, Items, no_items}
use Rattle.serde_json.specs.Data.{item, Members, no_members, member}
use Rattle.serde_json.specs.Written.{compact_text}

abbrev pub whole : ℕ → Data
whole n = number (unsigned n)

abbrev pub whole_or_null : Option ℕ → Data
whole_or_null None = null
whole_or_null (Some n) = whole n

abbrev pub items_of : {A : Type 0} → (A → Data) → List A → Items
items_of value [] = no_items
items_of value (x ∷ xs) = item (value x) (items_of value xs)

abbrev pub list_of : {A : Type 0} → (A → Data) → List A → Data
list_of value xs = array (items_of value xs)

-- the members of an object, each a key and its value
abbrev pub members_of : List (String × Data) → Members
members_of [] = no_members
members_of ((key, value) ∷ rest) = member (codes key) value (members_of rest)

abbrev pub object_of : List (String × Data) → Data
object_of members = object (members_of members)

abbrev pub member_if : String → Option ℕ → List (String × Data)
member_if key None = []
member_if key (Some n) = (key, whole n) ∷ []

-- the word for a truth value
abbrev pub true_or_false : Bool → List ℕ
true_or_false true = codes "true"
true_or_false false = codes "false"

-- a label and the number after it, or nothing if there is none
abbrev pub number_if : List ℕ → Option ℕ → List ℕ
number_if label None = []
number_if label (Some n) = label ++ decimal n

-- the text is the value's compact text
abbrev pub IsPage : Data → List ℕ → Type 0
IsPage value text = text ≡ compact_text value
