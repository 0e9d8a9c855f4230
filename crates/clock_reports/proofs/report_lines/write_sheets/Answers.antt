-- The lines of the rounds, one after the other.
use Rattle.std.proofs.Common.{◌≡◌, ◌<◌, ◌≤◌, ◌+◌, ◌++◌, List, ap, drop, flat_map, get_or, length, subst, sym, ◌∙◌}
use Rattle.clock_posting.specs.SheetText.{sheet_text}
use Rattle.clock_posting.specs.declared.sheet.RoundSheet.{RoundSheet}
use Rattle.clock_device.proofs.Buffers.{way_begins, way_ends, way_on}
use Rattle.clock_reports.specs.Reports.{ReportFields}
use Rattle.clock_reports.proofs.Rows.{next_one, no_one}
use Rattle.clock_reports.proofs.report_lines.write_sheets.Goals as goal

pub loop-sheet-init : goal.loop-sheet-init
loop-sheet-init g c = way_begins _ _

pub loop-sheet-preserved : goal.loop-sheet-preserved
loop-sheet-preserved g c =
    let sheets = c.args.report.now.sheets in
    let f = sheet_text c.args.report.now.setup.products in
    let index = c.loop-sheet.sheet-index in
    let sheet = c.sheet-item.result in
    let same : c.as_slice-sheet-items.result.now ≡ sheets =
    c.as_slice-sheet-items.ensures ∙ ap (λ (report : ReportFields). report.sheets) c.report.view_is in
    let within : index < length sheets =
    subst (λ (list : List RoundSheet). index < length list) same c.loop-sheet-test.true in
    let is : sheet ≡ get_or sheets index sheet =
    subst (λ (list : List RoundSheet). sheet ≡ get_or list index sheet) same c.sheet-item.is in
    let rest = flat_map f (drop (index + 1) sheets) in
    let next = next_one f sheets index sheet sheet within is
    ∙ ap (λ (report : ReportFields). sheet_text report.setup.products sheet ++ rest) (sym c.report.view_is) in
    way_on _ _ _ _ _ _ _ c.write_sheet.ensures next c.loop-sheet.invariant

pub returns : goal.returns
returns g c =
    let sheets = c.args.report.now.sheets in
    let index = c.loop-sheet.sheet-index in
    let same : c.as_slice-sheet-items.result.now ≡ sheets =
    c.as_slice-sheet-items.ensures ∙ ap (λ (report : ReportFields). report.sheets) c.report.view_is in
    let past : length sheets ≤ index =
    subst (λ (list : List RoundSheet). length list ≤ index) same c.loop-sheet-test.false in
    way_ends _ _ _ _ (no_one (sheet_text c.args.report.now.setup.products) sheets index past) c.loop-sheet.invariant
