-- Each turn of the loop writes the next bytes after those so far.
use Rattle.std.proofs.Common.{List, ℕ, subst, arith, rules, length-drop}
use Rattle.std.proofs.lemmas.List.{take_rest}
use Rattle.clock_device.specs.Streams.{HasWritten}
use Rattle.clock_device.proofs.Streams.{take_further, written_twice}
use Rattle.clock_device.proofs.stream.write_all.Goals as goal

pub loop-done-preserved : goal.loop-done-preserved
loop-done-preserved g c =
    let old = (g.W.Sink.report c.args.sink.now).taken in
    let mid = (g.W.Sink.report c.loop-done.sink).taken in
    let new = (g.W.Sink.report c.write.new.self).taken in
    let bytes = c.args.bytes.now in
    let wrote = rw (take_rest bytes c.loop-done.done) at c.in_ok-done.ensures.bytes in
    record {
      within = omega (arith, c.in_ok-done.ensures.within.1, length-drop {A = ℕ});
      written = subst (λ (text : List ℕ). HasWritten old new text) (take_further bytes c.loop-done.done
          c.in_ok-done.field-0) (written_twice old mid new _ _ c.loop-done.invariant.written wrote);
      unfailed = search rules;
    }
