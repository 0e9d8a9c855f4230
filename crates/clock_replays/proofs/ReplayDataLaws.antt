-- The value that the reader by bytes finds means the replay that it returns. So both readers agree.
use Rattle.std.proofs.Common.{◌≡◌, ℕ, List, Option, Some, None, option_map, refl, ap}
use Rattle.std.specs.Str.{IsUtf8}
use Rattle.serde_json.specs.Data.{Data}
use Rattle.serde_json.specs.Read.{read}
use Rattle.clock_json.specs.Reading.{whole_number, numbers}
use Rattle.clock_terms.specs.Faults.{first_fault, unless}
use Rattle.clock_setup.specs.SetupData.{setup_data}
use Rattle.clock_setup.specs.declared.setup_scan.NestedSetup.{NestedSetup}
use Rattle.clock_json.specs.Tree.{number_from, numbers_from}
use Rattle.clock_json.proofs.JsonLaws.{json_value}
use Rattle.clock_terms.specs.declared.increments.Increments.{Increments}
use Rattle.clock_terms.specs.declared.increments.Increments.TheVariants.{Single, PerProduct}
use Rattle.clock_bids.specs.declared.sheet.Bid.{Bid}
use Rattle.clock_order.specs.declared.ties.Tie.{Tie}
use Rattle.clock_bodies.specs.Bodies.{bid_of}
use Rattle.clock_bodies.specs.CloseBodies.{tie_in}
use Rattle.clock_bodies.specs.QuickBodies.{bid_data, tie_data}
use Rattle.clock_bodies.proofs.BodyScanLaws.{bid_means, tie_means, number_means, each_means}
use Rattle.clock_replays.specs.declared.replay.Script.{Script}
use Rattle.clock_replays.specs.declared.replay.Script.TheVariants.{Literal, Sincere}
use Rattle.clock_replays.specs.declared.replay.Closing.{Closing}
use Rattle.clock_replays.specs.ReplayShape.{ReplayParts, sheet_of, script_of, closing_from, replay_parts}
use Rattle.clock_replays.specs.inside.PartData.{sheet_data, script_data, closing_data}
use Rattle.clock_replays.specs.inside.ReplayData.{replay_data, found_data}
use Rattle.clock_replays.specs.Replays.{ReplayFields}
use Rattle.clock_replays.specs.ReplayChecks.{replay_checks}
use Rattle.clock_replays.specs.ReplayDocument.{document_replay}
use Rattle.clock_replays.proofs.DocumentLaws.{replay_at}

abbrev pub all_of : NestedSetup × List Script × List Closing → ReplayFields
all_of found = record { setup = found.0.setup; scripts = found.1; closings = found.2 }

-- ---- what the values mean

row_means : (row : List ℕ) → numbers_from (numbers row) ≡ Some row
unfolding numbers_from
row_means row = each_means number_from whole_number number_means row

sheet_means : (sheet : Option (List Bid)) → sheet_of (sheet_data sheet) ≡ Some sheet
unfolding sheet_of
sheet_means None = refl
sheet_means (Some bids) = ap (option_map Some) (each_means bid_of bid_data bid_means bids)

script_means : (script : Script) → script_of (script_data script) ≡ Some script
unfolding script_of
script_means (Literal sheets) = rw (each_means sheet_of sheet_data sheet_means sheets) refl
script_means (Sincere limits) = rw (each_means numbers_from numbers row_means limits) refl

abbrev closing : Increments → List Tie → Closing
closing increments ties = record { increments = increments; ties = ties }

closing_means : (increments : Increments) (ties : List Tie)
    → closing_from (closing_data (closing increments ties)) ≡ Some (closing increments ties)
unfolding closing_from
closing_means (Single increment) ties = rw (each_means tie_in tie_data tie_means ties) refl
closing_means (PerProduct increments) ties =
    rw (each_means number_from whole_number number_means increments, each_means tie_in tie_data tie_means ties) refl

parts_mean : (setup : Data) (scripts : List Script) (closings : List Closing) → replay_parts
    (replay_data setup scripts closings) ≡ Some (record { setup = setup; scripts = scripts; closings = closings })
unfolding replay_parts
parts_mean setup scripts closings =
    rw (
      each_means script_of script_data script_means scripts,
      each_means closing_from closing_data (λ known. closing_means known.increments known.ties) closings,
    ) refl

-- a document that is the value of a replay is decided by the checks after those of the set-up
pub replay_read : (bytes : List ℕ) (found : NestedSetup × List Script × List Closing) → IsUtf8 bytes → read bytes ≡ Some
    (found_data found) → document_replay bytes ≡ unless (first_fault (replay_checks (all_of found))) (all_of found)
unfolding document_replay
replay_read bytes found text is =
    let parts : ReplayParts = record { setup = setup_data found.0.setup; scripts = found.1; closings = found.2 } in
    rw (json_value bytes (found_data found) text is) (replay_at (found_data found) parts found.0.setup
    (parts_mean (setup_data found.0.setup) found.1 found.2) found.0.accepted)
