use Rattle.std.proofs.Common.{◌≡◌, drop}
use Rattle.serde_json.specs.View.{items_view}
use Rattle.clock_json.specs.Tree.{each}
use Rattle.clock_json.proofs.TreeLaws.{behind}
use Rattle.clock_json.proofs.tree.each_of.Given as goal

-- the parts so far, and those of what is left
abbrev pub invariant-loop-item : goal.invariant-loop-item
invariant-loop-item g l =
    let meaning = g.R.ValueReader.meaning l.reader in
    behind l.parts (each meaning (items_view (drop l.item-index l.items))) ≡ each meaning (items_view l.items)
