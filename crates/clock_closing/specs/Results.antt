-- What a closing produces.
--     result_demands slips      the processed demands in bidder results
--     AreConsistent results      the parts of a closing's results agree
use Rattle.std.specs.Prelude.{◌≡◌, ◌↔◌, ℕ, List, map, IsNone, IsTrue, IfSome}
use Rattle.clock_posting.specs.Posting.{next_pair}
use Rattle.clock_closing.specs.declared.closed_round.Slip.{Slip}
use Rattle.clock_closing.specs.declared.closed_round.Results.{Results}

-- The processed demands in bidder results, a row for each bidder.
abbrev pub result_demands : List Slip → List (List ℕ)
result_demands slips = map (λ slip. slip.demands) slips

-- There are next prices if and only if the auction does not end, and then they are those of the
-- round results. The demands are those of the bidder results.
pub record AreConsistent (results : Results) : Type 0 where
  pub end : IsNone results.next ↔ IsTrue results.closed.sheet.ended
  pub shown : IfSome results.next (λ next. next ≡ map next_pair results.closed.sheet.lines)
  pub demands : results.demands ≡ result_demands results.closed.slips
