-- What waited is written.
use Rattle.std.proofs.Common.{[], Bool, subst, sym}
use Rattle.clock_device.specs.Buffers.{IsPutIf}
use Rattle.clock_device.proofs.Buffers.{written_out}
use Rattle.clock_device.proofs.buffer.write_unless.Goals as goal

pub returns : goal.returns
returns g c = λ start text put.
    let old = g.W.Sink.report c.args.sink.now in
    let new = g.W.Sink.report c.write_all.new.sink in
    subst (λ (has_failed : Bool). IsPutIf has_failed start new [] text) (sym c.is_err.ensures.value)
    (written_out start old new c.args.bytes.now text c.write_all.result (subst (λ (has_failed : Bool).
    IsPutIf has_failed start old c.args.bytes.now text) c.if-has_failed.false put) c.write_all.ensures.bytes
    c.write_all.ensures.failed)
