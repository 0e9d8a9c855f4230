use Rattle.std.proofs.Common.{subst}
use Rattle.clock_device.specs.Streams.{WritesText}
use Rattle.clock_journal.specs.Mirrors.{MirrorState, state_of}
use Rattle.clock_journal.proofs.Mirrored.{appends_both, appends_both_rest, appends_first, appends_first_rest}
use Rattle.clock_journal.proofs.Mirrored.{text_front, written_all}
use Rattle.clock_journal.proofs.mirror.MirrorDurable.append.Goals as goal

pub returns-clause-written : goal.returns-clause-written
returns-clause-written g c =
    let reported = g.A.Durable.written in
    subst (λ (at : MirrorState).
    WritesText at.first.written (reported c.append.new.self) c.args.bytes.now c.append-2.result) c.self.view_is
    (written_all (reported c.self.inside.first) (reported c.append.new.self) c.args.bytes.now c.append-2.result
    c.in_ok-append.ensures.written)

pub returns-in_err-append-clause-under : goal.returns-in_err-append-clause-under
returns-in_err-append-clause-under g c =
    let new = state_of g.A.Durable c.append.new.self in
    appends_first _ _ c.self.view_is c.requires.unfailed c.self.invariant c.args.bytes.now new
    c.in_err-append.ensures.written c.append.ensures.moments

pub returns-in_err-append-clause-rest : goal.returns-in_err-append-clause-rest
returns-in_err-append-clause-rest g c =
    let new = state_of g.A.Durable c.append.new.self in
    appends_first_rest _ _ c.self.view_is c.requires.unfailed c.self.invariant c.args.bytes.now new
    c.in_err-append.ensures.written c.append.ensures.synced

pub returns-clause-under : goal.returns-clause-under
returns-clause-under g c =
    let new = state_of g.A.Durable c.append.new.self in
    let other = state_of g.B.Durable c.append-2.new.self in
    appends_both _ _ c.self.view_is c.requires.unfailed c.self.invariant c.args.bytes.now new other
    c.in_ok-append.ensures.written (text_front _ _ c.args.bytes.now c.append-2.result c.append-2.ensures.written)
    c.append.ensures.moments c.append-2.ensures.moments

pub returns-clause-rest : goal.returns-clause-rest
returns-clause-rest g c =
    let new = state_of g.A.Durable c.append.new.self in
    let other = state_of g.B.Durable c.append-2.new.self in
    appends_both_rest _ _ c.self.view_is c.requires.unfailed c.self.invariant c.args.bytes.now new other
    c.in_ok-append.ensures.written (text_front _ _ c.args.bytes.now c.append-2.result c.append-2.ensures.written)
    c.append.ensures.synced c.append-2.ensures.synced
