use Rattle.std.proofs.Common.{◌≡◌, length, take}
use Rattle.clock_terms.specs.Limits.{IsRow}
use Rattle.clock_bids.specs.Sheet.{asked_demands}
use Rattle.clock_bids.proofs.sheet.asked_row.Given as goal

-- the requested demands of the bids so far, within the caps
abbrev pub invariant-loop-bid : goal.invariant-loop-bid
invariant-loop-bid l = record {
  asked : l.asked ≡ asked_demands (length l.setup.products) (take l.bid-index l.bids);
  row : IsRow l.setup.products l.asked;
}
