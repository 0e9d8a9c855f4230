-- The parts of a bidder's line, one after the other.
use Rattle.std.proofs.Common.{◌++◌, List, ℕ, ap₂, codes, decimal, flat_map, subst}
use Rattle.clock_device.specs.Buffers.{Puts, output}
use Rattle.clock_device.proofs.Buffers.{put_twice}
use Rattle.clock_reports.specs.Writers.{demand_text}
use Rattle.clock_reports.proofs.report_lines.write_win.Goals as goal

pub returns : goal.returns
returns g c =
    let demands = flat_map demand_text c.args.demands.now in
    let two = put_twice _ _ _ (codes "won ") c.as_slice.result.now c.put.ensures c.put-2.ensures in
    let three = put_twice _ _ _ _ (codes " ") two c.put-3.ensures in
    let four = put_twice _ _ _ _ demands three c.write_demands.ensures in
    let five = put_twice _ _ _ _ (decimal c.payment.result) four c.put_number.ensures in
    let all = put_twice _ _ _ _ (codes "\n") five c.put-4.ensures in
    subst (Puts (output (g.W.Sink.report c.args.sink.now) c.args.buffer.now)
    (output (g.W.Sink.report c.put-4.new.sink) c.put-4.new.self)) (ap₂ (λ (name : List ℕ) (price : ℕ). codes "won "
    ++ name ++ codes " " ++ demands ++ decimal price ++ codes "\n") c.as_slice.ensures c.payment.ensures) all
