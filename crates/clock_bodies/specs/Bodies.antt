-- What the body of a sheet means, in terms of the JSON values that serde_json reads (own format).
--     bid_of value, put_of value      the bid, the sheet that a JSON value means
--     meant_by meaning value      what a value means, or the first fault of its bytes
--     put_body bytes      the sheet that bytes mean, or their first fault
-- An object must have exactly the keys shown: each is looked up, and the members are counted.
use Rattle.std.specs.Prelude.{ℕ, List, Option, Some, None, option_and_then, Result, Err}
use Rattle.std.specs.Prelude.{if◌then◌else◌, codes}
use Rattle.serde_json.specs.Data.{Data}
use Rattle.clock_terms.specs.Faults.{or_fault}
use Rattle.clock_json.specs.Tree.{number_at, items_at, has_members, each, json, ◌>>=◌}
use Rattle.clock_bids.specs.declared.sheet.Bid.{Bid}
use Rattle.clock_bodies.specs.declared.put_body.PutBody.{PutBody}
use Rattle.clock_bodies.specs.declared.body.BodyFault.{BodyFault}
use Rattle.clock_bodies.specs.declared.body.BodyFault.TheVariants.{NotJson, Shape}

-- {"price":N,"product":N,"quantity":N}
unfoldable pub bid_of : Data → Option Bid
bid_of value = do
  price ← number_at (codes "price") value
  product ← number_at (codes "product") value
  quantity ← number_at (codes "quantity") value
  if has_members 3 value
      then Some (record { product = product; quantity = quantity; price = price }) else None

-- {"bids":[BID,..],"round":N}
unfoldable pub put_of : Data → Option PutBody
put_of value = do
  round ← number_at (codes "round") value
  bids ← option_and_then (each bid_of) (items_at (codes "bids") value)
  if has_members 2 value then Some (record { round = round; bids = bids }) else None

-- what a value means as a body; without a value the fault is `NotJson`, without a meaning `Shape`
abbrev pub meant_by : {A : Type 0} → (Data → Option A) → Option Data → Result A BodyFault
meant_by meaning None = Err NotJson
meant_by meaning (Some value) = or_fault Shape (meaning value)

unfoldable pub put_body : List ℕ → Result PutBody BodyFault
put_body bytes = meant_by put_of (json bytes)
