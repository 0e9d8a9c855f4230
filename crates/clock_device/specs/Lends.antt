-- What a list ends as after a `&mut` to its items was returned.
--     with_items list items      the list with its first items replaced by these
--     lends_slice T list items      the list ends with the items that were written last
use Rattle.std.specs.Prelude.{List, ◌++◌, length, take, drop}
use Rattle.std.specs.Borrow.{Lends, Fml, RattleType, MutBor, Array}
use Rattle.clock_device.specs.contracts.items.Items.{the_row}

-- the list with its first items replaced by these, of which there are never more
abbrev pub with_items : {T : Type 0} → List T → List T → List T
with_items list items = take (length list) (items ++ drop (length items) list)

-- when the borrow ends, the list has the items as they are then
abbrev pub lends_slice : (T : RattleType) → MutBor (List T.Denot) → MutBor (List T.Denot) → Fml
lends_slice T list items = Lends (the_row T) (Array T 0) list items (with_items list.now)
