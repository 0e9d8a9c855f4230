-- A document that was read by bytes has the JSON value of its opening. Since its set-up was accepted, only the checks
-- after the set-up decide what it means.
use Rattle.std.proofs.Common.{◌≡◌, ℕ, List, Vec, map, Some, refl}
use Rattle.std.specs.declared.alloc.Global.{Global}
use Rattle.std.specs.Prelude.{⊤}
use Rattle.std.specs.Str.{IsUtf8}
use Rattle.serde_json.specs.Data.{Data}
use Rattle.serde_json.specs.Read.{read}
use Rattle.clock_json.specs.Reading.{whole_number, numbers, items_in}
use Rattle.clock_setup.specs.declared.setup_scan.NestedSetup.{NestedSetup}
use Rattle.clock_setup.specs.SetupData.{setup_data}
use Rattle.clock_json.specs.Tree.{number_from, each, numbers_from}
use Rattle.clock_setup.specs.OpeningShape.{opening_parts}
use Rattle.clock_setup.specs.OpeningDocument.{opening_with, document_opening}
use Rattle.clock_setup.specs.inside.OpeningData.{opening_data, scanned_data}
use Rattle.clock_json.proofs.JsonLaws.{json_value}
use Rattle.clock_setup.proofs.OpeningLaws.{opening_at}
use Rattle.clock_setup.proofs.ScanLaws.{each_of}

numbers_are : (row : List ℕ) → each number_from (items_in (map whole_number row)) ≡ Some row
numbers_are row = each_of number_from whole_number (λ _. ⊤) (λ n _. refl) row (λ k d lt. tt)

row_is : (row : List ℕ) → numbers_from (numbers row) ≡ Some row
unfolding numbers_from
row_is row = numbers_are row

rows_are : (demands : List (List ℕ)) → each numbers_from (items_in (map numbers demands)) ≡ Some demands
rows_are demands = each_of numbers_from numbers (λ _. ⊤) (λ row _. row_is row) demands (λ k d lt. tt)

-- the value of an opening has its parts
parts_are : (setup : Data) (demands : List (List ℕ)) (increment : ℕ) → opening_parts
    (opening_data setup demands increment) ≡ Some (record { setup = setup; demands = demands; increment = increment })
unfolding opening_parts
parts_are setup demands increment = rw (rows_are demands) refl

-- a document with the value of an opening is decided by the checks after the set-up
pub opening_read : (bytes : List ℕ) (found : NestedSetup × Vec (List ℕ) Global × ℕ) → IsUtf8 bytes
    → read bytes ≡ Some (scanned_data found) → document_opening bytes ≡ opening_with found.0.setup found.1.items found.2
unfolding document_opening
opening_read bytes found text is = rw (json_value bytes (scanned_data found) text is) (opening_at
    (scanned_data found) _ found.0.setup (parts_are (setup_data found.0.setup) found.1.items found.2) found.0.accepted)
