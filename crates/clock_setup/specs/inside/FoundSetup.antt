-- A set-up while it is read by bytes.
--     found_setup      its keys, each with its value if it was found
use Rattle.std.specs.Prelude.{option_map}
use Rattle.clock_json.specs.Reading.{Fields}
use Rattle.clock_setup.specs.declared.setup_scan.FoundSetup.{FoundSetup}
use Rattle.clock_setup.specs.SetupData.{products_data, bidders_data, setup_fields}

-- the keys of a set-up, each with its value if it was found
abbrev pub found_setup : FoundSetup → Fields
found_setup parts = setup_fields (option_map bidders_data parts.bidders) parts.limit
    (option_map (λ text. text.now) parts.operator) (option_map (λ list.
    products_data list.version list.entries) parts.products) parts.requirement parts.version
