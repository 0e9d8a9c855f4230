-- A closing as the JSON value that the reader by bytes finds.
--     ties_data ties      a list of tie-breaking numbers, as a value
--     close_value increments round ties      a closing with or without its round, as a value
--     close_members increment increments round ties      its keys, each with a value or none
--     close_fields found, scanned_data close      its keys, each with what was found; a whole one
--     close_data body      the value of a body
use Rattle.std.specs.Prelude.{ℕ, List, [], ◌∷◌, map, Option, Some, option_map, codes}
use Rattle.serde_json.specs.Data.{Data, object, array}
use Rattle.clock_json.specs.Reading.{whole_number, numbers, items_in, Fields, found_members}
use Rattle.clock_order.specs.declared.ties.Tie.{Tie}
use Rattle.clock_terms.specs.declared.increments.Increments.{Increments}
use Rattle.clock_bodies.specs.declared.close_body.CloseBody.{CloseBody}
use Rattle.clock_bodies.specs.declared.close_body.FoundClose.{FoundClose}
use Rattle.clock_bodies.specs.declared.close_body.ScannedClose.{ScannedClose}
use Rattle.clock_bodies.specs.QuickBodies.{tie_data, single_of, listed_of}

-- a list of tie-breaking numbers as a value
abbrev pub ties_data : List Tie → Data
ties_data ties = array (items_in (map tie_data ties))

-- a closing's keys, each with a value or none
abbrev pub close_members : Option ℕ → Option (List ℕ) → Option ℕ → Option (List Tie) → Fields
close_members increment increments round ties =
    (codes "increment", option_map whole_number increment)
    ∷ (codes "increments", option_map numbers increments)
    ∷ (codes "round", option_map whole_number round)
    ∷ (codes "ties", option_map ties_data ties)
    ∷ []

-- a closing's keys, each with what was found
abbrev pub close_fields : FoundClose → Fields
close_fields found = close_members found.increment found.increments found.round found.ties

-- a closing as a value
abbrev pub close_value : Increments → Option ℕ → List Tie → Data
close_value increments round ties = object
    (found_members (close_members (single_of increments) (listed_of increments) round (Some ties)))

-- what was read of a closing, as a value
abbrev pub scanned_data : ScannedClose → Data
scanned_data close = close_value close.increments close.round close.ties

-- the body of a closing as a value
abbrev pub close_data : CloseBody → Data
close_data body = close_value body.increments (Some body.round) body.ties
