-- Nothing waits after what waited was written. Then the bytes wait, or are written too.
use Rattle.std.proofs.Common.{◌≡◌, ◌++◌, [], List, ℕ, ap, rules, subst, take, sym, ◌∙◌}
use Rattle.clock_device.specs.Buffers.{BufferFields, IsPut, IsPutIf, output}
use Rattle.clock_device.proofs.Buffers.{more_wait, now_wait}
use Rattle.clock_device.proofs.buffer.Buffer.put_beyond.Goals as goal

pub returns-then-bytes-le-PIECE : goal.returns-then-bytes-le-PIECE
returns-then-bytes-le-PIECE g c = λ start text put.
    let sink = g.W.Sink.report c.flush.new.sink in
    let old = c.self.inside in
    let bytes = c.args.bytes.now in
    let none = ap (λ (buffer : BufferFields). buffer.waiting) c.self.view_is ∙ c.flush.ensures.none in
    let before : IsPutIf old.has_failed start sink (take old.used old.bytes.items) text =
    subst (λ (buffer : BufferFields). IsPut start (output sink buffer) text) (sym c.self.view_is)
    (c.flush.ensures.put start text put) in
    let empty : IsPutIf old.has_failed start sink [] text =
    subst (λ (waiting : List ℕ). IsPutIf old.has_failed start sink waiting text) none before in
    subst (λ (waiting : List ℕ). IsPutIf old.has_failed start sink waiting (text ++ bytes)) (sym (now_wait
    old.bytes.items c.copied_in-self-inside.new.all bytes old.bytes.len 0 c.copied_in-self-inside.result (search
    rules) (search rules) c.copied_in-self-inside.ensures.copied))
    (more_wait old.has_failed start sink [] text bytes empty)

pub returns-else-bytes-le-PIECE : goal.returns-else-bytes-le-PIECE
returns-else-bytes-le-PIECE g c = λ start text put.
    let sink = g.W.Sink.report c.flush.new.sink in
    let old = c.self.inside in
    let bytes = c.args.bytes.now in
    let none : take old.used old.bytes.items ≡ [] =
    ap (λ (buffer : BufferFields). buffer.waiting) c.self.view_is ∙ c.flush.ensures.none in
    let before : IsPutIf old.has_failed start sink (take old.used old.bytes.items) text =
    subst (λ (buffer : BufferFields). IsPut start (output sink buffer) text) (sym c.self.view_is)
    (c.flush.ensures.put start text put) in
    let empty : IsPutIf old.has_failed start sink [] text =
    subst (λ (waiting : List ℕ). IsPutIf old.has_failed start sink waiting text) none before in
    let new = c.write_unless-self-inside in
    subst (λ (waiting : List ℕ). IsPutIf new.result start (g.W.Sink.report new.new.sink) waiting (text ++ bytes))
    (sym none) (new.ensures start (text ++ bytes) (more_wait old.has_failed start sink [] text bytes empty))
