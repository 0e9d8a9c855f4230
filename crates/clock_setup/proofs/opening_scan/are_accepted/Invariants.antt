use Rattle.std.proofs.Common.{◌≡◌, All, length, take, drop, zip}
use Rattle.clock_terms.specs.Demands.{IsGrid}
use Rattle.clock_terms.specs.Faults.{first_fault, in_turn}
use Rattle.clock_terms.specs.Limits.{IsRow}
use Rattle.clock_setup.specs.OpeningDocument.{row_checks}
use Rattle.clock_setup.proofs.opening_scan.are_accepted.Given as goal

-- the bidders so far have rows that pass, and those that are left decide the first fault
abbrev pub invariant-loop-number : goal.invariant-loop-number
invariant-loop-number l = record {
  grid : IsGrid (length l.setup.bidders) (length l.setup.products) l.demands;
  rest : first_fault (in_turn (row_checks l.setup.products) l.number (drop l.number (zip l.setup.bidders l.demands)))
      ≡ first_fault (in_turn (row_checks l.setup.products) 0 (zip l.setup.bidders l.demands));
  rows : All (IsRow l.setup.products) (take l.number l.demands);
}
