use Rattle.std.proofs.Common.{◌≡◌}
use Rattle.std.specs.Prelude.{map}
use Rattle.std.specs.List.{range_with_len}
use Rattle.clock_terms.specs.Limits.{public_setup}
use Rattle.clock_terms.specs.Demands.{row_of}
use Rattle.clock_closing.specs.OpenRound.{holding_at}
use Rattle.clock_closing.specs.Closing.{slip_after}
use Rattle.clock_closing.proofs.open_round.OpenRound.slips.Given as goal

-- The list has the results of the bidders so far.
abbrev pub invariant-loop-bidder : goal.invariant-loop-bidder
invariant-loop-bidder l =
    l.slips.items ≡ map (λ bidder. slip_after (public_setup l.self.setup) l.self.before.public_state.round
    (holding_at l.self.before.holdings bidder).eligibility (row_of l.demands bidder)) (range_with_len 0 l.bidder)
