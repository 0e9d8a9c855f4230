use Rattle.std.proofs.Common.{take, All}
use Rattle.clock_reports.specs.Reports.{IsPricedLine}
use Rattle.clock_reports.proofs.report.law_of_prices.Given as goal

-- the prices of the lines so far are prices
abbrev pub invariant-loop-line : goal.invariant-loop-line
invariant-loop-line l = All IsPricedLine (take l.line-index l.lines)
