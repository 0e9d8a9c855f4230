-- The shape of an opening document: an object with exactly these keys, each with a value of its
-- kind. The format is our own.
--     OpeningParts      the values of the document
--     opening_parts value      these values, before the set-up is read and the rows are counted
use Rattle.std.specs.Prelude.{ℕ, List, Option, Some, None, option_and_then, if◌then◌else◌, codes}
use Rattle.serde_json.specs.Data.{Data}
use Rattle.serde_json.specs.Find.{get}
use Rattle.clock_json.specs.Tree.{number_at, items_at, has_members, numbers_from, each, ◌>>=◌}

-- the values of the document: any value for the set-up, rows of demands, and an increment in
-- percent
pub record OpeningParts : Type 0 where
  pub setup : Data
  pub demands : List (List ℕ)
  pub increment : ℕ

-- {"demands":[ROW,..],"increment":N,"setup":VALUE}
unfoldable pub opening_parts : Data → Option OpeningParts
opening_parts value = do
  setup ← get (codes "setup") value
  demands ← option_and_then (each numbers_from) (items_at (codes "demands") value)
  increment ← number_at (codes "increment") value
  if has_members 3 value
      then Some (record { setup = setup; demands = demands; increment = increment }) else None
