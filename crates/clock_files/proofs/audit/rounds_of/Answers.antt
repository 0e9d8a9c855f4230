use Rattle.std.proofs.Common.{◌∙◌, ap}
use Rattle.clock_house.specs.House.{HouseFields}
use Rattle.clock_reports.specs.FinalReport.{report_of}
use Rattle.clock_files.proofs.AuditLaws.{enough_for_report}
use Rattle.clock_files.proofs.audit.rounds_of.Goals as goal

pub audit_text-requires : goal.audit_text-requires
audit_text-requires c =
    let same = ap (λ (house : HouseFields). report_of house.setup house.closed) c.house-house.ensures in
    let recount = c.args.recount.now in
    enough_for_report c.requires.0 c.requires.1 recount.front recount.digests.items
    c.as_slice.result.now c.in_ok-report.report c.requires.2 (c.in_ok-report.ensures ∙ same) c.as_slice.ensures.value
