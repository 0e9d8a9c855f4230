-- What the tokens of a JSON text are read as, by serde_json's reading definition.
--     whole_number n      a whole number, as a value
--     numbers, rows      lists of numbers, and lists of such lists, as values
--     items_in, found_members      the items of a list, and the members of an object some of whose
--         keys were not found
--     ReadsValue levels old value new      the tokens begin with the value, and new ones follow
--     ReadsAll levels old values new      they begin with these values, one after the other
use Rattle.std.specs.Prelude.{◌≡◌, ℕ, ◌≤◌, List, [], ◌∷◌, map, Option, Some, None}
pub use Rattle.json.specs.Token.{Token}
use Rattle.json.specs.Json as json
use Rattle.serde_json.specs.Data.{Data, number, unsigned, array, Items, no_items, item, Members}
use Rattle.serde_json.specs.Data.{no_members, member}
use Rattle.serde_json.specs.Read.{of_json, converted}

-- a whole number
abbrev pub whole_number : ℕ → Data
whole_number n = number (unsigned n)

-- the items of a list, in order, before others
abbrev pub items_before : List Data → Items → Items
items_before [] rest = rest
items_before (value ∷ values) rest = item value (items_before values rest)

-- the items of a list, in order
abbrev pub items_in : List Data → Items
items_in values = items_before values no_items

-- a list of whole numbers
abbrev pub numbers : List ℕ → Data
numbers ns = array (items_in (map whole_number ns))

-- a list of lists of whole numbers
abbrev pub rows : List (List ℕ) → Data
rows lists = array (items_in (map numbers lists))

-- the keys of an object, each with its value where one was found
abbrev pub Fields : Type 0
Fields = List (List ℕ × Option Data)

-- a field before members
abbrev pub field_before : List ℕ → Option Data → Members → Members
field_before key None rest = rest
field_before key (Some value) rest = member key value rest

-- the members that were found
abbrev pub found_members : Fields → Members
found_members [] = no_members
found_members (field ∷ fields) = field_before field.0 field.1 (found_members fields)

-- if `levels` levels of nesting are allowed, the old tokens begin with this value, and
-- the new ones follow
abbrev pub ReadsValue : ℕ → List Token → Data → List Token → Type 0
ReadsValue levels old value new =
    (depth : ℕ) → levels ≤ depth → converted of_json (json.value depth old) ≡ Some (value, new)

-- the old tokens begin with these values, one after the other, and the new ones follow
unfoldable pub ReadsAll : ℕ → List Token → List Data → List Token → Type 0
ReadsAll levels old [] new = new ≡ old
ReadsAll levels old (value ∷ values) new =
    (behind : List Token) × ReadsValue levels old value behind × ReadsAll levels behind values new
