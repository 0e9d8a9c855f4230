-- The bytes wait after those before them.
use Rattle.std.proofs.Common.{◌≡◌, ◌++◌, List, ℕ, rules, subst, sym, take}
use Rattle.clock_device.specs.Buffers.{BufferFields, IsPut, IsPutIf, output}
use Rattle.clock_device.proofs.Buffers.{more_wait, now_wait}
use Rattle.clock_device.proofs.buffer.Buffer.put.Goals as goal

pub returns-then-bytes-self : goal.returns-then-bytes-self
returns-then-bytes-self g c = λ start text put.
    let sink = g.W.Sink.report c.args.sink.now in
    let old = c.self.inside in
    let bytes = c.args.bytes.now in
    let before : IsPutIf old.has_failed start sink (take old.used old.bytes.items) text =
    subst (λ (buffer : BufferFields). IsPut start (output sink buffer) text) (sym c.self.view_is) put in
    subst (λ (waiting : List ℕ). IsPutIf old.has_failed start sink waiting (text ++ bytes)) (sym (now_wait
    old.bytes.items c.copied_in-self-inside.new.all bytes old.bytes.len old.used c.copied_in-self-inside.result (search
    rules) (search rules) (subst (λ (items : List ℕ). take
    c.copied_in-self-inside.result c.copied_in-self-inside.new.all ≡ take old.used items ++ bytes)
    c.deref_mut.ensures.value c.copied_in-self-inside.ensures.copied)))
    (more_wait old.has_failed start sink (take old.used old.bytes.items) text bytes before)
