-- Whole replay documents as the JSON values that the reader by bytes finds.
use Rattle.std.specs.Prelude.{List, [], ◌∷◌, map, Option, Some, option_map, codes}
use Rattle.serde_json.specs.Data.{Data, object, array}
use Rattle.clock_json.specs.Reading.{items_in, Fields, found_members}
use Rattle.clock_setup.specs.SetupData.{setup_data}
use Rattle.clock_setup.specs.declared.setup_scan.NestedSetup.{NestedSetup}
use Rattle.clock_replays.specs.declared.replay.Script.{Script}
use Rattle.clock_replays.specs.declared.replay.Closing.{Closing}
use Rattle.clock_replays.specs.declared.read.FoundReplay.{FoundReplay}
use Rattle.clock_replays.specs.inside.PartData.{script_data, closing_data}

-- a replay's keys, each with its value if one was found
abbrev pub replay_fields : Option (List Closing) → Option (List Script) → Option Data → Fields
replay_fields closings scripts setup =
    (codes "closings", option_map (λ list. array (items_in (map closing_data list))) closings)
    ∷ (codes "scripts", option_map (λ list. array (items_in (map script_data list))) scripts)
    ∷ (codes "setup", setup)
    ∷ []

-- a replay's keys, each with what was found
abbrev pub found_replay : FoundReplay → Fields
found_replay found = replay_fields found.closings found.scripts
    (option_map (λ nested. setup_data nested.setup) found.nested)

-- a replay document as a value, given the value of its set-up
abbrev pub replay_data : Data → List Script → List Closing → Data
replay_data setup scripts closings =
    object (found_members (replay_fields (Some closings) (Some scripts) (Some setup)))

-- what was read of a replay document, as a value
abbrev pub found_data : NestedSetup × List Script × List Closing → Data
found_data found = replay_data (setup_data found.0.setup) found.1 found.2
