-- The report of an auction.
--     report_of setup closed      its round results, and the processed demands after its last
--         closed round
use Rattle.std.specs.Prelude.{List, map, reverse}
use Rattle.clock_terms.specs.Limits.{SetupFields}
use Rattle.clock_closing.specs.declared.closed_round.ClosedRound.{ClosedRound}
use Rattle.clock_house.specs.History.{holding, for_each_bidder}
use Rattle.clock_reports.specs.Reports.{ReportFields}

-- the results of the closed rounds in order, and each bidder's processed demands after the last of
-- them
abbrev pub report_of : SetupFields → List ClosedRound → ReportFields
report_of setup closed = record {
  setup = setup;
  sheets = map (λ round. round.sheet) (reverse closed);
  grid = for_each_bidder setup (λ bidder. (holding setup closed bidder).demands);
}
