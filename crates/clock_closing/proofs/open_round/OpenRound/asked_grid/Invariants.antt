use Rattle.std.proofs.Common.{◌≡◌, All}
use Rattle.std.specs.Prelude.{map, length}
use Rattle.std.specs.List.{range_with_len}
use Rattle.clock_terms.specs.Limits.{IsRow}
use Rattle.clock_bids.specs.Sheet.{asked_demands}
use Rattle.clock_closing.specs.OpenRound.{bids_at}
use Rattle.clock_closing.proofs.open_round.OpenRound.asked_grid.Given as goal

-- The rows have the requested demands of the bidders so far.
abbrev pub invariant-loop-bidder : goal.invariant-loop-bidder
invariant-loop-bidder l = record {
  asked : l.rows.items ≡ map (λ bidder. asked_demands (length l.self.setup.products)
      (bids_at l.self.before.sheets bidder)) (range_with_len 0 l.bidder);
  rows : All (IsRow l.self.setup.products) l.rows.items;
}
