-- The last read ends reading; the reads before it gave bytes or were interrupted.
use Rattle.std.proofs.Common.{ℕ, List, ap, length, take, length-take, arith, rules}
use Rattle.std.proofs.lemmas.Result.{err_from_is_err_and}
use Rattle.clock_device.proofs.Streams.{read_nothing}
use Rattle.clock_console.proofs.Reading.{failed_last, no_memory, too_much, unread_for_memory}
use Rattle.clock_console.proofs.input.read_all.Goals as goal

pub returns-in_err-piece-clause-reading : goal.returns-in_err-piece-clause-reading
returns-in_err-piece-clause-reading g c =
    let p = err_from_is_err_and c.from_residual.result c.from_residual.ensures.1 in
    rw (p.1, p.2) (unread_for_memory _ c.requires)

pub returns-in-Err-Failed-clause-reading : goal.returns-in-Err-Failed-clause-reading
returns-in-Err-Failed-clause-reading g c =
    let report = g.R.Source.report in
    let loop = c.loop-call in
    failed_last (record { before = report c.args.reader.now; after = report c.read.new.self })
    (report loop.reader) loop.document loop.invariant.read loop.invariant.few (omega arith) loop.invariant.unfailed
    (omega arith) (omega (arith, rw c.in-Err-Failed.field-0-is at c.in-Err-Failed.ensures.interrupted))
    (read_nothing _ _ c.in-Err-Failed.ensures.bytes) (search rules)

pub returns-then-count-free-clause-reading : goal.returns-then-count-free-clause-reading
returns-then-count-free-clause-reading g c =
    let report = g.R.Source.report in
    let loop = c.loop-call in
    let read = c.in-Ok.ensures in
    too_much (record { before = report c.args.reader.now; after = report c.read.new.self })
    (report loop.reader) loop.document loop.invariant.read loop.invariant.few (omega arith) loop.invariant.unfailed
    (omega arith) (omega arith) (take c.in-Ok.count c.read.new.buffer) read.bytes.0
    (omega (arith, length-take {A = ℕ}, ap (λ (bytes : List ℕ). length bytes) c.as_slice.ensures)) (search rules)

pub returns-in_err-extend_from_slice-clause-reading : goal.returns-in_err-extend_from_slice-clause-reading
returns-in_err-extend_from_slice-clause-reading g c =
    let report = g.R.Source.report in
    let loop = c.loop-call in
    let read = c.in-Ok.ensures in
    let p = err_from_is_err_and c.from_residual-in_err-extend_from_slice.result
    c.from_residual-in_err-extend_from_slice.ensures.1 in
    rw (p.1, p.2) (no_memory (record { before = report c.args.reader.now; after = report c.read.new.self })
    (report loop.reader) loop.document loop.invariant.read loop.invariant.few (omega arith) loop.invariant.unfailed
    (omega arith) (omega arith) (take c.in-Ok.count c.read.new.buffer) read.bytes.0
    (omega (arith, length-take {A = ℕ}, ap (λ (bytes : List ℕ). length bytes) c.as_slice.ensures)) (search rules))
