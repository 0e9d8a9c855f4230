use Rattle.std.proofs.Common.{◌≡◌, ◌++◌, drop}
use Rattle.clock_scripts.specs.inside.Bodies.{bids_text}
use Rattle.clock_scripts.proofs.bodies.push_sheet.Given as goal

-- with the other bids they are all there
abbrev pub invariant-loop-bid : goal.invariant-loop-bid
invariant-loop-bid l = l.text.items ++ bids_text (drop l.bid-index l.bids) ≡ l.initial.text.items ++ bids_text l.bids
