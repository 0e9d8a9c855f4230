-- The parts of a replay document as the JSON values that the reader by bytes finds.
--     script_fields, found_script      the keys of a script, each with what was found
--     sheet_data, script_data, closing_data      a whole part, as a value
use Rattle.std.specs.Prelude.{ℕ, List, [], ◌∷◌, map, Option, Some, None, option_map, codes}
use Rattle.serde_json.specs.Data.{Data, null, string, object, array}
use Rattle.clock_json.specs.Reading.{rows, items_in, Fields, found_members}
use Rattle.clock_bids.specs.declared.sheet.Bid.{Bid}
use Rattle.clock_bodies.specs.QuickClosings.{close_value}
use Rattle.clock_bodies.specs.inside.QuickBodies.{bids_data}
use Rattle.clock_replays.specs.declared.replay.Script.{Script}
use Rattle.clock_replays.specs.declared.replay.Script.TheVariants.{Literal, Sincere}
use Rattle.clock_replays.specs.declared.replay.Closing.{Closing}
use Rattle.clock_replays.specs.declared.read.FoundScript.{FoundScript}

-- a sheet of a literal script as a value
abbrev pub sheet_data : Option (List Bid) → Data
sheet_data None = null
sheet_data (Some bids) = bids_data bids

-- the sheets of a literal script as a value
abbrev pub sheets_data : List (Option (List Bid)) → Data
sheets_data sheets = array (items_in (map sheet_data sheets))

-- a script's keys, each with a value or none
abbrev pub script_fields : Option (List ℕ) → Option (List (List ℕ))
    → Option (List (Option (List Bid))) → Fields
script_fields kind limits sheets =
    (codes "kind", option_map string kind)
    ∷ (codes "limits", option_map rows limits)
    ∷ (codes "sheets", option_map sheets_data sheets)
    ∷ []

-- a script's keys, each with what was found
abbrev pub found_script : FoundScript → Fields
found_script found =
    script_fields (option_map (λ kind. kind.now) found.kind) found.limits found.sheets

-- a script as a value
abbrev pub script_data : Script → Data
script_data (Literal sheets) =
    object (found_members (script_fields (Some (codes "literal")) None (Some sheets)))
script_data (Sincere limits) =
    object (found_members (script_fields (Some (codes "sincere")) (Some limits) None))

-- a closing as a value, without its round
abbrev pub closing_data : Closing → Data
closing_data closing = close_value closing.increments None closing.ties
