-- What the body of a closing means, in terms of the JSON values that serde_json reads (own format).
--     tie_in value, increments_of value, close_of value      the tie-breaking number, the
--         increments, the closing that a JSON value means
--     close_body bytes      the closing that bytes mean, or their first fault
--     is_of_version version increments, in_version version body      a closing has the form of the
--         set-up's version
use Rattle.std.specs.Prelude.{ℕ, ◌==◌, not, Bool, List, Option, Some, None, option_and_then}
use Rattle.std.specs.Prelude.{option_map, Result, Ok, Err, if◌then◌else◌, codes}
use Rattle.serde_json.specs.Data.{Data, Items, no_items, item}
use Rattle.serde_json.specs.Find.{as_array}
use Rattle.clock_terms.specs.declared.increments.Increments.{Increments}
use Rattle.clock_terms.specs.declared.increments.Increments.TheVariants.{Single, PerProduct}
use Rattle.clock_json.specs.Tree.{number_from, number_at, items_at, has_members, each, json, ◌>>=◌}
use Rattle.clock_order.specs.declared.ties.Tie.{Tie}
use Rattle.clock_bodies.specs.declared.close_body.CloseBody.{CloseBody}
use Rattle.clock_bodies.specs.declared.body.BodyFault.{BodyFault}
use Rattle.clock_bodies.specs.declared.body.BodyFault.TheVariants.{Shape}
use Rattle.clock_bodies.specs.Bodies.{meant_by}

-- a bidder, a product, and the tie-breaking number
abbrev pub tie_from : Items → Option Tie
tie_from (item a (item b (item c no_items))) = do
  bidder ← number_from a
  product ← number_from b
  number ← number_from c
  Some (record { bidder = bidder; product = product; number = number })
tie_from _ = None

-- [BIDDER,PRODUCT,NUMBER]
abbrev pub tie_in : Data → Option Tie
tie_in value = option_and_then tie_from (as_array value)

-- the single increment, or without one the numbers of the list
abbrev pub or_each : Option ℕ → Option Items → Option Increments
or_each (Some increment) items = Some (Single increment)
or_each None items = option_map PerProduct (option_and_then (each number_from) items)

-- "increment":N or "increments":[N,..]
abbrev pub increments_of : Data → Option Increments
increments_of value =
    or_each (number_at (codes "increment") value) (items_at (codes "increments") value)

-- {"increment":N,"round":N,"ties":[TIE,..]}, or with increments; three members cannot have both
unfoldable pub close_of : Data → Option CloseBody
close_of value = do
  round ← number_at (codes "round") value
  increments ← increments_of value
  ties ← option_and_then (each tie_in) (items_at (codes "ties") value)
  if has_members 3 value
      then Some (record { round = round; increments = increments; ties = ties }) else None

unfoldable pub close_body : List ℕ → Result CloseBody BodyFault
close_body bytes = meant_by close_of (json bytes)

-- version 1 has one increment for all products, a later version one for each
abbrev pub is_of_version : ℕ → Increments → Bool
is_of_version version (Single increment) = version == 1
is_of_version version (PerProduct increments) = not (version == 1)

-- a closing in the form of the set-up's version
abbrev pub in_version : ℕ → Result CloseBody BodyFault → Result CloseBody BodyFault
in_version version (Err fault) = Err fault
in_version version (Ok body) = if is_of_version version body.increments then Ok body else Err Shape
