use Rattle.clock_journal.specs.Mirrors.{state_of}
use Rattle.clock_journal.proofs.Mirrored.{cuts_both, cuts_both_rest, cuts_first}
use Rattle.clock_journal.proofs.mirror.MirrorDurable.cut.Goals as goal

pub returns-in_err-cut-clause-under : goal.returns-in_err-cut-clause-under
returns-in_err-cut-clause-under g c =
    let new = state_of g.A.Durable c.cut.new.self in
    cuts_first _ _ c.self.view_is c.requires.unfailed c.self.invariant new c.args.place c.cut.ensures.moments

pub returns-clause-under : goal.returns-clause-under
returns-clause-under g c =
    let new = state_of g.A.Durable c.cut.new.self in
    let other = state_of g.B.Durable c.cut-2.new.self in
    cuts_both _ _ c.self.view_is c.requires.unfailed c.self.invariant new other c.args.place c.cut.ensures.moments
    c.cut-2.ensures.moments

pub returns-clause-rest : goal.returns-clause-rest
returns-clause-rest g c =
    let new = state_of g.A.Durable c.cut.new.self in
    let other = state_of g.B.Durable c.cut-2.new.self in
    cuts_both_rest _ _ c.self.view_is c.requires.unfailed c.self.invariant new other c.cut-2.result c.args.place
    c.in_ok-cut.ensures.written c.in_ok-cut.ensures.synced c.cut-2.ensures.written c.cut-2.ensures.synced
