-- A product and a bidder while they are read by bytes.
--     found_product, found_bidder      the keys of an object, each with its value if it was found
--     NotesField      a value was noted under one of the keys
use Rattle.std.specs.Prelude.{◌≡◌, ℕ, List, true, Some, option_map}
use Rattle.serde_json.specs.Data.{Data}
use Rattle.clock_json.specs.Reading.{Fields}
use Rattle.clock_json.specs.Members.{is_field, with_field, value_at}
use Rattle.clock_setup.specs.declared.setup_scan.FoundProduct.{FoundProduct}
use Rattle.clock_setup.specs.declared.setup_scan.FoundBidder.{FoundBidder}
use Rattle.clock_setup.specs.SetupData.{product_fields, bidder_fields}

-- the keys of a product, each with its value if it was found
abbrev pub found_product : FoundProduct → Fields
found_product parts = product_fields parts.cap parts.granule
    (option_map (λ text. text.now) parts.name) parts.opening parts.supply parts.units

-- the keys of a bidder, each with its value if it was found
abbrev pub found_bidder : FoundBidder → Fields
found_bidder parts = bidder_fields parts.eligibility (option_map (λ text. text.now) parts.name)
    (option_map (λ text. text.now) parts.token)

-- a value was noted under a key, which is one of the fields', and nothing else is found now
-- that was not before
abbrev pub NotesField : List ℕ → Data → Fields → Fields → Type 0
NotesField key value before after =
    (is_field key before ≡ true)
    × (after ≡ with_field key (value_at key after) before)
    × (value_at key after ≡ Some value)
