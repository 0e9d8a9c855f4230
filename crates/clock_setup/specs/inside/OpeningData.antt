-- The JSON value of an opening: a document with this value means this opening.
--     opening_fields demands increment setup      its keys, each with its value if there is one
--     opening_data setup demands increment      the whole document, with the value of its set-up
--     short_rows_in value      the demands of a document as 16-bit numbers
--     found_opening, scanned_data      an opening while it is read by bytes, and the JSON value of
--         a whole one
use Rattle.std.specs.Prelude.{ℕ, List, [], ◌∷◌, Option, Some, option_and_then, option_map, map}
use Rattle.std.specs.Prelude.{codes, Vec}
use Rattle.std.specs.declared.alloc.Global.{Global}
use Rattle.serde_json.specs.Data.{Data, object}
use Rattle.clock_json.specs.Tree.{items_at, numbers_from, each}
use Rattle.clock_json.specs.Rows.{shortened}
use Rattle.clock_json.specs.Reading.{whole_number, rows, Fields, found_members}
use Rattle.clock_setup.specs.declared.setup_scan.NestedSetup.{NestedSetup}
use Rattle.clock_setup.specs.declared.opening_scan.FoundOpening.{FoundOpening}
use Rattle.clock_setup.specs.SetupData.{setup_data}

-- the keys of an opening, each with its value if there is one
abbrev pub opening_fields : Option Data → Option ℕ → Option Data → Fields
opening_fields demands increment setup =
    (codes "demands", demands)
    ∷ (codes "increment", option_map whole_number increment)
    ∷ (codes "setup", setup)
    ∷ []

-- the JSON value of an opening
abbrev pub opening_data : Data → List (List ℕ) → ℕ → Data
opening_data setup demands increment =
    object (found_members (opening_fields (Some (rows demands)) (Some increment) (Some setup)))

-- the rows of demands of a document, where each demand above 65,535 is replaced by that
abbrev pub short_rows_in : Data → Option (List (List ℕ))
short_rows_in value = option_map (map (map shortened))
    (option_and_then (each numbers_from) (items_at (codes "demands") value))

-- the keys of an opening, each with its value if it was found
abbrev pub found_opening : FoundOpening → Fields
found_opening found = opening_fields (option_map (λ list. rows list.items) found.demands)
    found.increment
    (option_map (λ nested. setup_data nested.setup) found.nested)

-- the JSON value of an opening that was read by bytes
abbrev pub scanned_data : NestedSetup × Vec (List ℕ) Global × ℕ → Data
scanned_data found = opening_data (setup_data found.0.setup) found.1.items found.2
