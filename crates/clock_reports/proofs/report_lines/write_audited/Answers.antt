-- The lines of the rounds with their digests, one after the other.
use Rattle.std.proofs.Common.{◌≡◌, ◌<◌, ◌≤◌, ◌+◌, ◌++◌, List, [], ap, arith, drop, flat_map, get_or, length, refl}
use Rattle.std.proofs.Common.{subst, sym, ◌∙◌}
use Rattle.std.specs.Prelude.{zip}
use Rattle.clock_posting.specs.declared.sheet.RoundSheet.{RoundSheet}
use Rattle.clock_device.proofs.Buffers.{way_begins, way_ends, way_on}
use Rattle.clock_reports.specs.Reports.{ReportFields}
use Rattle.clock_reports.specs.ReportText.{audited_round}
use Rattle.clock_reports.proofs.Rows.{next_pair, no_pair}
use Rattle.clock_reports.proofs.report_lines.write_audited.Goals as goal

pub loop-index-init : goal.loop-index-init
loop-index-init g c = way_begins _ _

pub loop-index-preserved : goal.loop-index-preserved
loop-index-preserved g c =
    let sheets = c.args.report.now.sheets in
    let digests = c.args.digests.now in
    let f = audited_round c.args.report.now.setup.products in
    let index = c.loop-index.index in
    let sheet = c.sheet-item.result in
    let digest = get_or digests index [] in
    let same : c.deref-sheet-items.result.now ≡ sheets =
    c.deref-sheet-items.ensures ∙ ap (λ (report : ReportFields). report.sheets) c.report.view_is in
    let within : index < length sheets =
    subst (λ (list : List RoundSheet). index < length list) same c.loop-index-test.true in
    let among : index < length digests = omega (arith, within, c.requires) in
    let is : sheet ≡ get_or sheets index sheet =
    subst (λ (list : List RoundSheet). sheet ≡ get_or list index sheet) same c.sheet-item.is in
    let rest = flat_map f (zip (drop (index + 1) sheets) (drop (index + 1) digests)) in
    let next = next_pair f sheets digests index sheet sheet digest [] within among is refl
    ∙ ap (λ (report : ReportFields). audited_round report.setup.products (sheet, digest) ++ rest)
    (sym c.report.view_is) in
    way_on _ _ _ _ _ _ _ c.write_audited_round.ensures next c.loop-index.invariant

pub returns : goal.returns
returns g c =
    let sheets = c.args.report.now.sheets in
    let index = c.loop-index.index in
    let same : c.deref-sheet-items.result.now ≡ sheets =
    c.deref-sheet-items.ensures ∙ ap (λ (report : ReportFields). report.sheets) c.report.view_is in
    let past : length sheets ≤ index =
    subst (λ (list : List RoundSheet). length list ≤ index) same c.loop-index-test.false in
    way_ends _ _ _ _ (no_pair (audited_round c.args.report.now.setup.products) sheets c.args.digests.now index past)
    c.loop-index.invariant
