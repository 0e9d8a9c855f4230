use Rattle.clock_journal.specs.Mirrors.{state_of}
use Rattle.clock_journal.proofs.Mirrored.{syncs_both, syncs_both_rest, syncs_first, syncs_first_rest}
use Rattle.clock_journal.proofs.mirror.MirrorDurable.sync.Goals as goal

pub returns-in_err-sync-clause-under : goal.returns-in_err-sync-clause-under
returns-in_err-sync-clause-under g c =
    let new = state_of g.A.Durable c.sync.new.self in
    syncs_first _ _ c.self.view_is c.requires.unfailed c.self.invariant new c.sync.ensures.moments

pub returns-in_err-sync-clause-rest : goal.returns-in_err-sync-clause-rest
returns-in_err-sync-clause-rest g c =
    let new = state_of g.A.Durable c.sync.new.self in
    syncs_first_rest _ _ c.self.view_is c.requires.unfailed c.self.invariant new c.sync.ensures.written
    c.in_err-sync.ensures.err

pub returns-clause-under : goal.returns-clause-under
returns-clause-under g c =
    let new = state_of g.A.Durable c.sync.new.self in
    let other = state_of g.B.Durable c.sync-2.new.self in
    syncs_both _ _ c.self.view_is c.requires.unfailed c.self.invariant new other c.sync.ensures.moments
    c.sync-2.ensures.moments

pub returns-clause-rest : goal.returns-clause-rest
returns-clause-rest g c =
    let new = state_of g.A.Durable c.sync.new.self in
    let other = state_of g.B.Durable c.sync-2.new.self in
    syncs_both_rest _ _ c.self.view_is c.requires.unfailed c.self.invariant new other c.sync-2.result
    c.sync.ensures.written c.in_ok-sync.ensures.ok c.sync-2.ensures.written c.sync-2.ensures.ok c.sync-2.ensures.err
