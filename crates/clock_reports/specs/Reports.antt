-- The outcome of an auction so far.
--     ReportFields      the parts of a report
--     IsPricedLine line      the prices of a product's line are prices
--     IsReport report      the limits of a report
use Rattle.std.specs.Prelude.{◌≡◌, ◌≤◌, ℕ, List, All, length}
use Rattle.clock_money.specs.Price.{IsPrice}
use Rattle.clock_terms.specs.Limits.{SetupFields, IsSetup}
use Rattle.clock_posting.specs.declared.sheet.Line.{Line}
use Rattle.clock_posting.specs.declared.sheet.RoundSheet.{RoundSheet}

-- a set-up, the round results in order, and the processed demands after the last of these rounds
pub record ReportFields : Type 0 where
  pub setup : SetupFields
  pub sheets : List RoundSheet
  pub grid : List (List ℕ)

-- the three prices of a product's line are from 1 to 10^12 dollars
pub record IsPricedLine (line : Line) : Type 0 where
  pub start : IsPrice line.start
  pub clock : IsPrice line.clock
  pub posted : IsPrice line.posted

-- At least one round is closed. Each round's results have a line for each product, and the demands
-- are a grid of the set-up.
pub record IsReport (report : ReportFields) : Type 0 where
  pub setup : IsSetup report.setup
  pub some : 1 ≤ length report.sheets
  pub each : All (λ sheet. length sheet.lines ≡ length report.setup.products) report.sheets
  pub priced : All (λ sheet. All IsPricedLine sheet.lines) report.sheets
  pub bidders : length report.grid ≡ length report.setup.bidders
  pub rows : All (λ demands. length demands ≡ length report.setup.products) report.grid
