-- The lines of the bidders have the prices of the last round.
use Rattle.std.proofs.Common.{◌≡◌, ◌<◌, ◌-◌, ℕ, List, [], zero, suc, ◌∷◌, ap, arith, false, get_or, length}
use Rattle.std.proofs.Common.{refl, subst, ◌∙◌}
use Rattle.std.specs.Prelude.{zip}
use Rattle.std.specs.List.{flat_map}
use Rattle.clock_device.specs.Buffers.{Puts, output}
use Rattle.clock_posting.specs.declared.sheet.Line.{Line}
use Rattle.clock_posting.specs.declared.sheet.RoundSheet.{RoundSheet}
use Rattle.clock_reports.specs.Reports.{ReportFields}
use Rattle.clock_reports.specs.ReportText.{last_lines, won_text, wins_text}
use Rattle.clock_reports.proofs.report_lines.write_report_wins.Goals as goal

-- an item of a list is the same, whatever is read beyond its end
any_default : {A : Type 0} (xs : List A) (n : ℕ) (d e : A) → n < length xs → get_or xs n d ≡ get_or xs n e
any_default [] n d e within = absurd (omega (arith, within))
any_default (x ∷ xs) zero d e within = refl
any_default (x ∷ xs) (suc n) d e within = any_default xs n d e (omega (arith, within))

pub returns : goal.returns
returns g c =
    let none : RoundSheet = record { round = 0; ended = false; lines = [] } in
    let sheets = c.as_slice-sheets.result.now in
    let last = c.index-sheets-sheets.result in
    let bidders = c.report.inside.setup.bidders in
    let grid = c.report.inside.grid in
    let count = ap (λ (list : List RoundSheet). length list) c.as_slice-sheets.ensures in
    let within : length sheets - 1 < length sheets = omega (arith, count, c.report.invariant.some) in
    let lines : c.as_slice-lines.result.now ≡ last_lines sheets =
    c.as_slice-lines.ensures ∙ ap (λ (sheet : RoundSheet). sheet.lines)
    (any_default sheets (length sheets - 1) last none within) in
    let text = ap (λ (list : List Line). flat_map (won_text list) (zip bidders grid)) lines
    ∙ ap (λ (list : List RoundSheet). flat_map (won_text (last_lines list)) (zip bidders grid))
    c.as_slice-sheets.ensures
    ∙ ap (λ (report : ReportFields). wins_text report) c.report.view_is in
    subst (Puts (output (g.W.Sink.report c.args.sink.now) c.args.buffer.now)
    (output (g.W.Sink.report c.write_wins.new.sink) c.write_wins.new.buffer)) text c.write_wins.ensures
