use Rattle.std.proofs.Common.{◌≡◌, ◌++◌, take, reverse}
use Rattle.clock_scripts.specs.inside.Blocks.{block_bids}
use Rattle.clock_scripts.specs.inside.Bodies.{bids_text}
use Rattle.clock_scripts.proofs.sincere.push_held.Given as goal

-- with the bids of the blocks before it is those of the whole processed demand
abbrev pub invariant-loop-block : goal.invariant-loop-block
invariant-loop-block l =
    l.text.items ++ bids_text (block_bids l.product l.past l.pair (reverse (take l.block l.limits)))
    ≡ l.initial.text.items ++ bids_text (block_bids l.product l.past l.pair (reverse (take l.blocks l.limits)))
