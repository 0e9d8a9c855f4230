use Rattle.std.proofs.Common.{◌≡◌}
use Rattle.std.specs.Prelude.{flat_map}
use Rattle.std.specs.List.{range_with_len}
use Rattle.clock_closing.specs.Closing.{requests_by}
use Rattle.clock_closing.proofs.open_round.OpenRound.requests.Given as goal

-- The list has the requests of the bidders so far.
abbrev pub invariant-loop-bidder : goal.invariant-loop-bidder
invariant-loop-bidder l = l.changes ≡ flat_map (requests_by l.self.before) (range_with_len 0 l.bidder)
