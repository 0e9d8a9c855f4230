-- The shape of a replay document: exactly these keys, each with a value of its kind (own format).
--     sheet_of value      a sheet of a literal script, or none
--     script_of value, closing_from value      an item of "scripts" and of "closings"
--     replay_parts value      the whole document, before its set-up is read or parts are compared
use Rattle.std.specs.Prelude.{ℕ, List, Option, Some, None, option_and_then, option_map, is_some}
use Rattle.std.specs.Prelude.{if◌then◌else◌, codes}
use Rattle.std.specs.Str.{bytes_eq}
use Rattle.serde_json.specs.Data.{Data}
use Rattle.serde_json.specs.Find.{get, as_null, as_array}
use Rattle.clock_json.specs.Tree.{text_at, items_at, has_members, each, numbers_from, ◌>>=◌}
use Rattle.clock_bids.specs.declared.sheet.Bid.{Bid}
use Rattle.clock_bodies.specs.Bodies.{bid_of}
use Rattle.clock_bodies.specs.CloseBodies.{tie_in, increments_of}
use Rattle.clock_replays.specs.declared.replay.Script.{Script}
use Rattle.clock_replays.specs.declared.replay.Script.TheVariants.{Literal, Sincere}
use Rattle.clock_replays.specs.declared.replay.Closing.{Closing}

-- the parts of a replay document: any value for the set-up, the scripts, and the closings
pub record ReplayParts : Type 0 where
  pub setup : Data
  pub scripts : List Script
  pub closings : List Closing

-- null for no sheet, or [BID,..]
unfoldable pub sheet_of : Data → Option (Option (List Bid))
sheet_of value = if is_some (as_null value) then Some None
    else option_map Some (option_and_then (each bid_of) (as_array value))

-- the member that a kind requires: "sheets":[SHEET,..], or "limits":[[N,..],..]
abbrev pub script_by_kind : List ℕ → Data → Option Script
script_by_kind kind value = if bytes_eq kind (codes "literal")
    then option_map Literal (option_and_then (each sheet_of) (items_at (codes "sheets") value))
    else (if bytes_eq kind (codes "sincere") then option_map Sincere
    (option_and_then (each numbers_from) (items_at (codes "limits") value)) else None)

-- {"kind":"literal","sheets":[SHEET,..]} or {"kind":"sincere","limits":[[N,..],..]}
unfoldable pub script_of : Data → Option Script
script_of value = do
  kind ← text_at (codes "kind") value
  if has_members 2 value then script_by_kind kind value else None

-- {"increment":N,"ties":[TIE,..]}, or with "increments":[N,..]; two members cannot have both
unfoldable pub closing_from : Data → Option Closing
closing_from value = do
  increments ← increments_of value
  ties ← option_and_then (each tie_in) (items_at (codes "ties") value)
  if has_members 2 value then Some (record { increments = increments; ties = ties }) else None

-- {"closings":[CLOSING,..],"scripts":[SCRIPT,..],"setup":VALUE}
unfoldable pub replay_parts : Data → Option ReplayParts
replay_parts value = do
  setup ← get (codes "setup") value
  scripts ← option_and_then (each script_of) (items_at (codes "scripts") value)
  closings ← option_and_then (each closing_from) (items_at (codes "closings") value)
  if has_members 3 value
      then Some (record { setup = setup; scripts = scripts; closings = closings }) else None
