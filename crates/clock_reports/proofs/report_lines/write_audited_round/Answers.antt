-- The lines of the round, and then the parts of the line with its digest.
use Rattle.std.proofs.Common.{codes, decimal}
use Rattle.clock_device.proofs.Buffers.{put_twice}
use Rattle.clock_reports.proofs.report_lines.write_audited_round.Goals as goal

pub returns : goal.returns
returns g c =
    let two = put_twice _ _ _ _ (codes "closed ") c.write_sheet.ensures c.put.ensures in
    let three = put_twice _ _ _ _ (decimal c.args.sheet.now.round) two c.put_number.ensures in
    let four = put_twice _ _ _ _ (codes " ") three c.put-2.ensures in
    let five = put_twice _ _ _ _ c.args.digest.now four c.put-3.ensures in
    put_twice _ _ _ _ (codes "\n") five c.put-4.ensures
