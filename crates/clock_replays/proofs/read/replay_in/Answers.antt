-- The first part that is missing or refused decides the fault.
use Rattle.std.proofs.Common.{◌≡◌, ◌≢◌, true, false, Some, None, Ok, Err, IfOk, IfErr, ap, sym, subst, ◌∙◌, rules}
use Rattle.std.specs.Prelude.{codes}
use Rattle.std.proofs.lemmas.Result.{err_from_is_err_and}
use Rattle.serde_json.specs.Find.{get}
use Rattle.serde_json.specs.View.{view}
use Rattle.clock_json.specs.Tree.{has_members}
use Rattle.clock_terms.specs.Faults.{IsRefusal}
use Rattle.clock_setup.specs.declared.fault.SetupFault.TheVariants as setup_faults
use Rattle.clock_replays.specs.declared.replay.ScriptFault.TheVariants.{NoMemory}
use Rattle.clock_replays.proofs.DocumentLaws.{scripts_in, closings_in, no_setup, no_scripts, no_closings, other_members}
use Rattle.clock_replays.proofs.DocumentLaws.{parts_read, not_there}
use Rattle.clock_replays.proofs.DocumentLaws.{in_setup, replay_setup, replay_at}
use Rattle.clock_replays.proofs.read.replay_in.Goals as goal

pub returns-in_err-nested-clause-err : goal.returns-in_err-nested-clause-err
returns-in_err-nested-clause-err c =
    let p = err_from_is_err_and c.from_residual.result c.from_residual.ensures.1 in
    let gone = not_there _ _ _ c.in_err-nested.ensures.value in
    let none : get (codes "setup") (view c.args.value.now) ≡ None = sym (rw gone.0 at c.get.ensures) in
    rw (p.1, p.2) (λ known. no_setup (view c.args.value.now) none ∙ ap Err (sym gone.1))

pub returns-in_err-scripts-clause-err : goal.returns-in_err-scripts-clause-err
returns-in_err-scripts-clause-err c =
    let value = view c.args.value.now in
    let p = err_from_is_err_and c.from_residual-in_err-scripts.result c.from_residual-in_err-scripts.ensures.1 in
    let nested : get (codes "setup") value ≡ Some (view c.in_ok-nested.nested.now) =
    sym (rw c.in_ok-nested.ensures.ok_part at c.get.ensures) in
    let gone = not_there _ _ _ c.in_err-scripts.ensures.value in
    let none : scripts_in value ≡ None = sym c.in_ok-each_at.ensures ∙ gone.0 in
    rw (p.1, p.2) (λ known. no_scripts value _ nested none ∙ ap Err (sym gone.1))

pub returns-in_err-closings-clause-err : goal.returns-in_err-closings-clause-err
returns-in_err-closings-clause-err c =
    let value = view c.args.value.now in
    let p = err_from_is_err_and c.from_residual-in_err-closings.result c.from_residual-in_err-closings.ensures.1 in
    let nested : get (codes "setup") value ≡ Some (view c.in_ok-nested.nested.now) =
    sym (rw c.in_ok-nested.ensures.ok_part at c.get.ensures) in
    let scripts : scripts_in value ≡ Some c.in_ok-scripts.scripts =
    sym c.in_ok-each_at.ensures ∙ c.in_ok-scripts.ensures.ok_part in
    let gone = not_there _ _ _ c.in_err-closings.ensures.value in
    let none : closings_in value ≡ None = sym c.in_ok-each_at-2.ensures ∙ gone.0 in
    rw (p.1, p.2) (λ known. no_closings value _ _ nested scripts none ∙ ap Err (sym gone.1))

pub returns-then-not-has_members-clause-err : goal.returns-then-not-has_members-clause-err
returns-then-not-has_members-clause-err c = λ known.
    let value = view c.args.value.now in
    let nested : get (codes "setup") value ≡ Some (view c.in_ok-nested.nested.now) =
    sym (rw c.in_ok-nested.ensures.ok_part at c.get.ensures) in
    let scripts : scripts_in value ≡ Some c.in_ok-scripts.scripts =
    sym c.in_ok-each_at.ensures ∙ c.in_ok-scripts.ensures.ok_part in
    let closings : closings_in value ≡ Some c.in_ok-closings.closings =
    sym c.in_ok-each_at-2.ensures ∙ c.in_ok-closings.ensures.ok_part in
    let other : has_members 3 value ≡ false = search rules in
    other_members value _ _ _ nested scripts closings other

pub returns-in-Ok : goal.returns-in-Ok
returns-in-Ok c =
    let value = view c.args.value.now in
    let nested : get (codes "setup") value ≡ Some (view c.in_ok-nested.nested.now) =
    sym (rw c.in_ok-nested.ensures.ok_part at c.get.ensures) in
    let scripts : scripts_in value ≡ Some c.in_ok-scripts.scripts =
    sym c.in_ok-each_at.ensures ∙ c.in_ok-scripts.ensures.ok_part in
    let closings : closings_in value ≡ Some c.in_ok-closings.closings =
    sym c.in_ok-each_at-2.ensures ∙ c.in_ok-closings.ensures.ok_part in
    let whole : has_members 3 value ≡ true = search rules in
    let is =
    sym (replay_at value _ c.in-Ok.setup (parts_read value _ _ _ nested scripts closings whole) c.in-Ok.ensures.ok) in
    record {
      ok = subst (λ answer. IfOk c.judged.result (λ replay. answer ≡ Ok replay)) is c.judged.ensures.ok;
      err = subst (λ answer. IfErr c.judged.result (IsRefusal NoMemory answer)) is c.judged.ensures.err;
      nested = c.judged.ensures.nested;
    }

pub returns : goal.returns
returns c =
    let value = view c.args.value.now in
    let nested : get (codes "setup") value ≡ Some (view c.in_ok-nested.nested.now) =
    sym (rw c.in_ok-nested.ensures.ok_part at c.get.ensures) in
    let scripts : scripts_in value ≡ Some c.in_ok-scripts.scripts =
    sym c.in_ok-each_at.ensures ∙ c.in_ok-scripts.ensures.ok_part in
    let closings : closings_in value ≡ Some c.in_ok-closings.closings =
    sym c.in_ok-each_at-2.ensures ∙ c.in_ok-closings.ensures.ok_part in
    let whole : has_members 3 value ≡ true = search rules in
    let other : c.in-Err.fault ≢ setup_faults.NoMemory = search rules in
    record {
      ok = tt;
      err = λ known. replay_setup value _ _ (parts_read value _ _ _ nested scripts closings whole)
          (in_setup _ _ (c.in-Err.ensures.err other));
      nested = search rules;
    }
