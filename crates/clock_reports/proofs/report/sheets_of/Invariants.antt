use Rattle.std.proofs.Common.{◌≡◌, take, map, All}
use Rattle.std.specs.Prelude.{reverse}
use Rattle.clock_reports.specs.Reports.{IsPricedLine}
use Rattle.clock_reports.proofs.report.sheets_of.Given as goal

-- the results of the rounds so far
abbrev pub invariant-loop-round : goal.invariant-loop-round
invariant-loop-round g l = record {
  same : l.sheets ≡ take l.round (map (λ closed. closed.sheet) (reverse l.house.closed));
  priced : All (λ sheet. All IsPricedLine sheet.lines) l.sheets;
}
