-- The requests that pieces over connections make up.
--     Numbered      the connections by number, each with its text so far while it is open
--     completed numbered event      the request that an event completes
--     after numbered event      the connections after an event
--     requests_of events      the requests of a list of events, in the order of their completion
-- Connections are numbered from 0 in the order in which clients connect. Refused ones count.
use Rattle.std.specs.Prelude.{ℕ, ◌++◌, List, [], ◌∷◌, Option, Some, None, option_map}
use Rattle.std.specs.Prelude.{option_and_then, if◌then◌else◌, nat_lt}
use Rattle.std.specs.Prelude.{is_some, count_by, slice_index_or, slice_set}
use Rattle.clock_http.specs.Framing.{needs_more}
use Rattle.clock_connections.specs.Connections.{most_connections}
use Rattle.clock_connections.specs.declared.connections.Event.{Event}
use Rattle.clock_connections.specs.declared.connections.Event.TheVariants.{Connect, Piece, Finish}

-- for each number its pieces, joined; `None` if the connection was refused or its request completed
abbrev pub Numbered : Type 0
Numbered = List (Option (List ℕ))

-- the text so far of an open connection
abbrev pub text_so_far : Numbered → ℕ → Option (List ℕ)
text_so_far numbered number = slice_index_or numbered number None

-- the request that an event completes: the text, if it needs no more after a piece, or at its end
abbrev pub completed : Numbered → Event → Option (ℕ × List ℕ)
completed numbered Connect = None
completed numbered (Piece number piece) = option_and_then (λ text. if needs_more (text ++ piece)
    then None else Some (number, text ++ piece)) (text_so_far numbered number)
completed numbered (Finish number) =
    option_map (λ text. (number, text)) (text_so_far numbered number)

-- the connections after an event: a new one, unless 256 are open; a completed one becomes `None`
abbrev pub after : Numbered → Event → Numbered
after numbered Connect =
    numbered ++ (if nat_lt (count_by is_some numbered) most_connections then Some [] else None) ∷ []
after numbered (Piece number piece) =
    slice_set numbered number (option_and_then (λ text. if needs_more (text ++ piece)
    then Some (text ++ piece) else None) (text_so_far numbered number))
after numbered (Finish number) = slice_set numbered number None

-- the request that an event completes, before those of later events
abbrev pub and_then : Option (ℕ × List ℕ) → List (ℕ × List ℕ) → List (ℕ × List ℕ)
and_then None later = later
and_then (Some request) later = request ∷ later

-- the requests that events complete, given the connections before them
abbrev pub requests_from : Numbered → List Event → List (ℕ × List ℕ)
requests_from numbered [] = []
requests_from numbered (event ∷ events) =
    and_then (completed numbered event) (requests_from (after numbered event) events)

-- the requests that events complete, from the first event on
abbrev pub requests_of : List Event → List (ℕ × List ℕ)
requests_of events = requests_from [] events
