use Rattle.std.proofs.Common.{take, rules}
use Rattle.clock_journal.specs.Mirrors.{state_of}
use Rattle.clock_journal.specs.inside.Leveling.{IsCopied}
use Rattle.clock_journal.proofs.Brought.{begin_copy, copied_more, copy_ends, copy_fails, copy_stops, copy_synced}
use Rattle.clock_journal.proofs.Brought.{first_fails, on_ok}
use Rattle.clock_journal.proofs.mirror.extend.Given.{Over}
use Rattle.clock_journal.proofs.mirror.extend.Goals.{In_ok-append-2}
use Rattle.clock_journal.proofs.mirror.extend.Goals as goal

pub returns-in_err-append-clause-moments : goal.returns-in_err-append-clause-moments
returns-in_err-append-clause-moments g c =
    first_fails (g.S.Source.report c.args.source.now).left c.args.missing.now (state_of g.D.Durable c.args.disk.now)
    (state_of g.D.Durable c.append.new.self) c.in_err-append.ensures.written c.append.ensures.moments

pub loop-count-init : goal.loop-count-init
loop-count-init g c =
    begin_copy (g.S.Source.report c.args.source.now).left c.args.missing.now (state_of g.D.Durable c.args.disk.now)
    (state_of g.D.Durable c.append.new.self) c.in_ok-append.ensures.written c.append.ensures.unseen
    c.append.ensures.moments c.append.ensures.synced (search rules)

pub returns-in_err-count-clause-moments : goal.returns-in_err-count-clause-moments
returns-in_err-count-clause-moments g c = copy_stops _ _ _ _ _ c.loop-count.invariant

pub returns-in_err-append-2-clause-moments : goal.returns-in_err-append-2-clause-moments
returns-in_err-append-2-clause-moments g c =
    copy_fails _ _ (g.S.Source.report c.fill.new.source).left _ (take c.in_ok-count.count c.fill.new.buffer) _ _
    (state_of g.D.Durable c.append-in-loop-count.new.self) c.loop-count.invariant c.in_ok-count.ensures.bytes
    c.in_err-append-2.ensures.written c.append-in-loop-count.ensures.moments

-- once a piece is appended, the disk has what was missing, and all that was read
copied : (g : Over) (c : In_ok-append-2 g) → IsCopied (g.S.Source.report c.args.source.now).left
    (g.S.Source.report c.fill.new.source).left c.args.missing.now (state_of g.D.Durable c.args.disk.now)
    (state_of g.D.Durable c.append-in-loop-count.new.self)
copied g c =
    copied_more _ _ _ _ (take c.in_ok-count.count c.fill.new.buffer) _ _ _ c.loop-count.invariant
    c.in_ok-count.ensures.bytes c.append-in-loop-count.ensures.moments c.in_ok-append-2.ensures.written
    c.append-in-loop-count.ensures.unseen c.append-in-loop-count.ensures.synced (search rules)

pub returns-then-count-lt-PIECE-clause-ok : goal.returns-then-count-lt-PIECE-clause-ok
returns-then-count-lt-PIECE-clause-ok g c =
    on_ok _ c.sync.result (copy_ends _ _ _ _ _ (state_of g.D.Durable c.sync.new.self)
    (copied g (goal.at.returns-then-count-lt-PIECE-clause-ok g c).In_ok-append-2)
    (c.in_ok-count.ensures.out (search rules)) c.sync.ensures.written)

pub returns-then-count-lt-PIECE-clause-moments : goal.returns-then-count-lt-PIECE-clause-moments
returns-then-count-lt-PIECE-clause-moments g c =
    copy_synced _ _ _ _ _ (state_of g.D.Durable c.sync.new.self)
    (copied g (goal.at.returns-then-count-lt-PIECE-clause-moments g c).In_ok-append-2)
    (c.in_ok-count.ensures.out (search rules)) c.sync.ensures.written c.sync.ensures.moments

pub returns-then-count-copied-clause-moments : goal.returns-then-count-copied-clause-moments
returns-then-count-copied-clause-moments g c =
    copy_stops _ _ _ _ _ (copied g (goal.at.returns-then-count-copied-clause-moments g c).In_ok-append-2)

pub loop-count-preserved : goal.loop-count-preserved
loop-count-preserved g c = copied g (goal.at.loop-count-preserved g c).In_ok-append-2
