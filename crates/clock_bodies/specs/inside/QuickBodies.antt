-- Sheets as the JSON values that the reader by bytes finds.
use Rattle.std.specs.Prelude.{ℕ, List, [], ◌∷◌, map, Option, Some, option_map, codes}
use Rattle.serde_json.specs.Data.{Data, object, array}
use Rattle.clock_json.specs.Reading.{whole_number, items_in, Fields, found_members}
use Rattle.clock_bids.specs.declared.sheet.Bid.{Bid}
use Rattle.clock_bodies.specs.declared.put_body.PutBody.{PutBody}
use Rattle.clock_bodies.specs.declared.put_body.FoundPut.{FoundPut}
use Rattle.clock_bodies.specs.QuickBodies.{bid_data}

-- a list of bids as a value
abbrev pub bids_data : List Bid → Data
bids_data bids = array (items_in (map bid_data bids))

-- a sheet's keys, each with a value or none
abbrev pub put_members : Option ℕ → Option (List Bid) → Fields
put_members round bids =
    (codes "bids", option_map bids_data bids)
    ∷ (codes "round", option_map whole_number round)
    ∷ []

-- a sheet's keys, each with what was found
abbrev pub put_fields : FoundPut → Fields
put_fields found = put_members found.round found.bids

-- a sheet as a value
abbrev pub put_data : PutBody → Data
put_data body = object (found_members (put_members (Some body.round) (Some body.bids)))
