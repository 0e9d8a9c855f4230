-- Lists and objects of JSON that are not read to their end yet.
--     HasItems, HasMembers      what was read of a list, of an object that is not closed yet
use Rattle.std.specs.Prelude.{◌≡◌, ℕ, ◌≤◌, List, length}
pub use Rattle.json.specs.Token.{Token}
use Rattle.json.specs.Json as json
use Rattle.serde_json.specs.Data.{Data, Members, no_members}
use Rattle.serde_json.specs.Read.{of_items, of_members, converted}
use Rattle.clock_json.specs.Reading.{items_before}

-- these items of a list were read, which begin with the old tokens; the new tokens are left
unfoldable pub HasItems : ℕ → List Token → List Data → List Token → Type 0
HasItems levels old values new = (count : ℕ) × (length new ≤ count) × ((depth : ℕ) → levels ≤ depth
    → converted of_items (json.items (json.value depth) (length old) old) ≡ json.parse_map
    (items_before values) (converted of_items (json.items (json.value depth) count new)))

-- these members of an object were read, which begin with the old tokens; the new tokens are left
unfoldable pub HasMembers : ℕ → List Token → Members → List Token → Type 0
HasMembers levels old found new = (count : ℕ) × (length new ≤ count) × ((depth : ℕ) → levels ≤ depth
    → converted (λ ms. of_members ms no_members) (json.members (json.value depth) (length old) old)
    ≡ converted (λ ms. of_members ms found) (json.members (json.value depth) count new))
