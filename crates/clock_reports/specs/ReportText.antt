-- The text of a report: the lines of each round's results, then a line for each bidder. The format
-- is our own.
--     payment lines demands      the price of a bidder's demands at the posted prices
--     won_text lines won      the line of a bidder
--     last_lines, sheets_have_ended sheets      the lines of the last round, and whether the
--         auction ended with it
--     rounds_text report, wins_text report      the lines of all rounds, and of all bidders
--     report_text report      the whole text
--     audited_round products round      the lines of a round, and the digest after its closing
--     audit_text report digests      the text of an audit
use Rattle.std.specs.Prelude.{ℕ, Bool, ◌*◌, ◌-◌, if◌then◌else◌, List, [], ◌++◌, codes, decimal}
use Rattle.std.specs.Prelude.{false, length, slice_index_or, sum_by, zip}
use Rattle.std.specs.List.{flat_map}
use Rattle.clock_terms.specs.declared.setup.Bidder.{Bidder}
use Rattle.clock_terms.specs.declared.setup.Product.{Product}
use Rattle.clock_posting.specs.declared.sheet.Line.{Line}
use Rattle.clock_posting.specs.declared.sheet.RoundSheet.{RoundSheet}
use Rattle.clock_posting.specs.SheetText.{sheet_text}
use Rattle.clock_reports.specs.Reports.{ReportFields}

-- the price of a bidder's demands: demand times posted price, added up over the products
abbrev pub payment : List Line → List ℕ → ℕ
payment lines demands = sum_by (λ pair. pair.0.posted * pair.1) (zip lines demands)

-- A bidder's line: the word `won`, its name, its demand for each product, and the price of all.
-- Fields are separated by one space.
abbrev pub won_text : List Line → Bidder × List ℕ → List ℕ
won_text lines won = codes "won " ++ won.0.name ++ codes " " ++ flat_map (λ demand. decimal demand
    ++ codes " ") won.1 ++ decimal (payment lines won.1) ++ codes "\n"

-- the lines of the last round's results
abbrev pub last_lines : List RoundSheet → List Line
last_lines sheets = (slice_index_or sheets (length sheets - 1)
    (record { round = 0; ended = false; lines = [] })).lines

-- the lines of all rounds, in order
abbrev pub rounds_text : ReportFields → List ℕ
rounds_text report = flat_map (sheet_text report.setup.products) report.sheets

-- the lines of all bidders: what each won, and what it pays
abbrev pub wins_text : ReportFields → List ℕ
wins_text report =
    flat_map (won_text (last_lines report.sheets)) (zip report.setup.bidders report.grid)

-- the lines of the rounds, then those of the bidders
abbrev pub report_text : ReportFields → List ℕ
report_text report = rounds_text report ++ wins_text report

-- the lines of a round, then one with the digest after its closing
abbrev pub audited_round : List Product → RoundSheet × List ℕ → List ℕ
audited_round products round = sheet_text products round.0 ++ codes "closed "
    ++ decimal round.0.round ++ codes " " ++ round.1 ++ codes "\n"

-- whether the auction ended with the last of these rounds
abbrev pub sheets_have_ended : List RoundSheet → Bool
sheets_have_ended sheets = (slice_index_or sheets (length sheets - 1)
    (record { round = 0; ended = false; lines = [] })).ended

-- The lines of the rounds, each with the digest after its closing; then, if the auction has ended,
-- those of the bidders.
abbrev pub audit_text : ReportFields → List (List ℕ) → List ℕ
audit_text report digests = flat_map (audited_round report.setup.products) (zip report.sheets
    digests) ++ (if sheets_have_ended report.sheets then wins_text report else [])
