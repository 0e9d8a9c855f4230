-- What a replay document means: a replay, or its first fault (own format and order).
--     replay_of value      the replay that a JSON value means, or its first fault
--     document_replay bytes      the replay that bytes mean, or their first fault
use Rattle.std.specs.Prelude.{ℕ, List, Result, Ok, Err}
use Rattle.serde_json.specs.Data.{Data}
use Rattle.clock_setup.specs.declared.fault.SetupFault.{SetupFault}
use Rattle.clock_terms.specs.Limits.{SetupFields}
use Rattle.clock_terms.specs.Faults.{first_fault, unless, or_fault, ◌>>=◌}
use Rattle.clock_json.specs.Tree.{json}
use Rattle.clock_setup.specs.SetupDocument.{setup_of}
use Rattle.clock_replays.specs.declared.replay.ScriptFault.{ScriptFault}
use Rattle.clock_replays.specs.declared.replay.ScriptFault.TheVariants.{NotJson, Shape, Setup}
use Rattle.clock_replays.specs.Replays.{ReplayFields}
use Rattle.clock_replays.specs.ReplayShape.{ReplayParts, replay_parts}
use Rattle.clock_replays.specs.ReplayChecks.{replay_checks}

-- the set-up with the other parts of its document
abbrev pub replay_with : SetupFields → ReplayParts → ReplayFields
replay_with setup parts =
    record { setup = setup; scripts = parts.scripts; closings = parts.closings }

-- a fault of the set-up is one of the document
abbrev pub in_replay : Result SetupFields SetupFault → Result SetupFields ScriptFault
in_replay (Ok setup) = Ok setup
in_replay (Err fault) = Err (Setup fault)

-- the shape first, then the set-up, then the other checks
unfoldable pub replay_of : Data → Result ReplayFields ScriptFault
replay_of value = do
  parts ← or_fault Shape (replay_parts value)
  setup ← in_replay (setup_of parts.setup)
  unless (first_fault (replay_checks (replay_with setup parts))) (replay_with setup parts)

-- the replay that bytes mean, or their first fault
unfoldable pub document_replay : List ℕ → Result ReplayFields ScriptFault
document_replay bytes = do
  value ← or_fault NotJson (json bytes)
  replay_of value
