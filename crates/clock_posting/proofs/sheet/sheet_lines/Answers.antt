-- The text is what was put into the buffer.
use Rattle.std.proofs.Common.{Some, []}
use Rattle.clock_device.specs.Reports.{unused}
use Rattle.clock_posting.specs.SheetText.{sheet_text}
use Rattle.clock_device.proofs.Buffers.{begun}
use Rattle.clock_posting.proofs.sheet.sheet_lines.Goals as goal

pub returns : goal.returns
returns c = c.finish.ensures (sheet_text c.args.setup.now.products c.args.sheet.now) (c.write_sheet.ensures
    (unused (Some [])) [] (begun _ _ _ c.new-sink.ensures c.in_ok-buffer.ensures))
