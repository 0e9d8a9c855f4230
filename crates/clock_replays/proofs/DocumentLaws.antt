-- What a replay document means, case by case: of another shape, with a set-up that is refused, or decided by the other
-- checks.
use Rattle.std.proofs.Common.{◌≡◌, true, false, List, Option, Some, None, Result, Ok, Err, refl, ap}
use Rattle.std.specs.Prelude.{codes, ok_or, option_and_then}
use Rattle.serde_json.specs.Data.{Data}
use Rattle.serde_json.specs.Find.{get}
use Rattle.clock_json.specs.Tree.{items_at, has_members, each}
use Rattle.clock_terms.specs.Faults.{first_fault, unless}
use Rattle.clock_terms.specs.Limits.{SetupFields}
use Rattle.clock_setup.specs.declared.fault.SetupFault.{SetupFault}
use Rattle.clock_setup.specs.SetupDocument.{setup_of}
use Rattle.clock_replays.specs.declared.replay.ScriptFault.{ScriptFault}
use Rattle.clock_replays.specs.declared.replay.ScriptFault.TheVariants.{Shape, Setup}
use Rattle.clock_replays.specs.declared.replay.Script.{Script}
use Rattle.clock_replays.specs.declared.replay.Closing.{Closing}
use Rattle.clock_replays.specs.ReplayShape.{ReplayParts, script_of, closing_from, replay_parts}
use Rattle.clock_replays.specs.ReplayChecks.{replay_checks}
use Rattle.clock_replays.specs.ReplayDocument.{replay_with, in_replay, replay_of}

-- a document with its shape and a set-up is decided by its other checks
pub replay_at : (value : Data) (parts : ReplayParts) (setup : SetupFields) → replay_parts value ≡ Some parts
    → setup_of parts.setup ≡ Ok setup
    → replay_of value ≡ unless (first_fault (replay_checks (replay_with setup parts))) (replay_with setup parts)
unfolding replay_of
replay_at value parts setup read nested = rw (read, nested) refl

-- a document of another shape
pub replay_shape : (value : Data) → replay_parts value ≡ None → replay_of value ≡ Err Shape
unfolding replay_of
replay_shape value none = rw none refl

-- a document whose set-up is refused
pub replay_setup : (value : Data) (parts : ReplayParts) (fault : ScriptFault) → replay_parts value ≡ Some parts
    → in_replay (setup_of parts.setup) ≡ Err fault → replay_of value ≡ Err fault
unfolding replay_of
replay_setup value parts fault read refused = rw (read, refused) refl

-- ---- a document of another shape, by the part that is missing

abbrev pub scripts_in : Data → Option (List Script)
scripts_in value = option_and_then (each script_of) (items_at (codes "scripts") value)

abbrev pub closings_in : Data → Option (List Closing)
closings_in value = option_and_then (each closing_from) (items_at (codes "closings") value)

pub no_setup : (value : Data) → get (codes "setup") value ≡ None → replay_of value ≡ Err Shape
unfolding replay_parts
no_setup value none = replay_shape value (rw none refl)

pub no_scripts : (value setup : Data) → get (codes "setup") value ≡ Some setup → scripts_in value ≡ None
    → replay_of value ≡ Err Shape
unfolding replay_parts
no_scripts value setup nested none = replay_shape value (rw (nested, none) refl)

pub no_closings : (value setup : Data) (scripts : List Script) → get (codes "setup") value ≡ Some setup
    → scripts_in value ≡ Some scripts → closings_in value ≡ None → replay_of value ≡ Err Shape
unfolding replay_parts
no_closings value setup scripts nested known none = replay_shape value (rw (nested, known, none) refl)

pub other_members : (value setup : Data) (scripts : List Script) (closings : List Closing)
    → get (codes "setup") value ≡ Some setup → scripts_in value ≡ Some scripts → closings_in value ≡ Some closings
    → has_members 3 value ≡ false → replay_of value ≡ Err Shape
unfolding replay_parts
other_members value setup scripts closings nested known last other =
    replay_shape value (rw (nested, known, last, other) refl)

-- the parts of a document that has its shape
pub parts_read : (value setup : Data) (scripts : List Script) (closings : List Closing) → get (codes "setup") value
    ≡ Some setup → scripts_in value ≡ Some scripts → closings_in value ≡ Some closings → has_members 3 value ≡ true
    → replay_parts value ≡ Some (record { setup = setup; scripts = scripts; closings = closings })
unfolding replay_parts
parts_read value setup scripts closings nested known last whole = rw (nested, known, last, whole) refl

-- if `ok_or` returns an error, there was no value
pub not_there : {A E : Type 0} (read : Option A) (reported fault : E) → Err fault ≡ ok_or read reported
    → (read ≡ None) × (fault ≡ reported)
not_there None reported fault is = (refl, cc)
not_there (Some found) reported fault is = absurd (cc)

-- a set-up that is refused
pub in_setup : (answer : Result SetupFields SetupFault) (fault : SetupFault) → answer ≡ Err fault
    → in_replay answer ≡ Err (Setup fault)
in_setup answer fault is = ap in_replay is
