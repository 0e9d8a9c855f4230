-- If the reader by bytes reads a replay, the document means it, up to the checks after the set-up.
use Rattle.std.proofs.Common.{◌≡◌, Ok, IfOk, IfErr, sym, subst}
use Rattle.clock_terms.specs.Faults.{IsRefusal}
use Rattle.clock_replays.specs.declared.replay.ScriptFault.TheVariants.{NoMemory}
use Rattle.clock_replays.proofs.ReplayDataLaws.{replay_read}
use Rattle.clock_replays.proofs.read.read_replay.Goals as goal

pub returns-in-Some-clause-ok : goal.returns-in-Some-clause-ok
returns-in-Some-clause-ok c = subst (λ answer. IfOk c.judged.result (λ replay. answer ≡ Ok replay))
    (sym (replay_read c.args.bytes.now (c.in-Some.nested, c.in-Some.scripts, c.in-Some.closings) (rw c.in-Some.is
    at c.in_ok-nested.ensures.text) (rw c.in-Some.is at c.in_ok-nested.ensures.value))) c.judged.ensures.ok

pub returns-in-Some-clause-err : goal.returns-in-Some-clause-err
returns-in-Some-clause-err c = subst (λ answer. IfErr c.judged.result (IsRefusal NoMemory answer))
    (sym (replay_read c.args.bytes.now (c.in-Some.nested, c.in-Some.scripts, c.in-Some.closings) (rw c.in-Some.is
    at c.in_ok-nested.ensures.text) (rw c.in-Some.is at c.in_ok-nested.ensures.value))) c.judged.ensures.err
