use Rattle.std.proofs.Common.{◌≡◌, ◌∷◌, List, length, map, ◌≤◌}
use Rattle.json.specs.Token.{Token}
use Rattle.clock_json.specs.inside.Reading.{HasItems}
use Rattle.clock_bodies.specs.QuickBodies.{bid_data}
use Rattle.clock_bodies.proofs.put_body.bids.Given as goal

-- the bids so far follow the opening bracket
abbrev pub invariant-items : goal.invariant-items
invariant-items l =
    (start : List Token) × (l.fn.scan ≡ Token.begin_array ∷ start) × HasItems 1 start (map bid_data l.list.items) l.scan
    × (length l.scan ≤ length start)

abbrev pub decreases-items : goal.decreases-items
decreases-items l = length l.scan
