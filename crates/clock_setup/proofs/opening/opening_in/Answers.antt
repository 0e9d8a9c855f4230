-- The parts that the code reads are those of the definition, and demands as 16-bit numbers give the same result.
use Rattle.std.proofs.Common.{◌≡◌, ◌≢◌, true, Some, Ok, Err, IfOk, IfErr, ap, sym, subst, ◌∙◌, rules}
use Rattle.std.specs.Prelude.{codes}
use Rattle.serde_json.specs.Find.{get}
use Rattle.serde_json.specs.View.{view}
use Rattle.clock_json.specs.Tree.{has_members, number_at}
use Rattle.clock_terms.specs.Faults.{IsRefusal}
use Rattle.clock_setup.specs.declared.opening.OpeningFault.TheVariants.{Setup, NoMemory}
use Rattle.clock_setup.specs.declared.fault.SetupFault.TheVariants as setup_faults
use Rattle.clock_setup.specs.OpeningDocument.{in_opening}
use Rattle.clock_setup.specs.inside.OpeningData.{short_rows_in}
use Rattle.clock_setup.proofs.ShortenedLaws.{opening_means}
use Rattle.clock_setup.proofs.opening.opening_in.Goals as goal

pub returns-in-Ok-clause-ok : goal.returns-in-Ok-clause-ok
returns-in-Ok-clause-ok c =
    let value = view c.args.value.now in
    let nested : get (codes "setup") value ≡ Some (view c.in-Some-Some.setup.now) =
    sym (rw c.in-Some-Some.is-0 at c.get.ensures) in
    let increment : number_at (codes "increment") value ≡ Some c.in-Some-Some.increment =
    sym (rw c.in-Some-Some.is-1 at c.number_at.ensures) in
    let rows : short_rows_in value ≡ Some c.in-Some.demands =
    sym (rw c.in-Some.is at c.in_ok-demands.ensures) in
    let whole : has_members 3 value ≡ true = sym c.has_members.ensures ∙ c.if-not-has_members.false in
    subst (λ answer. IfOk c.judged.result (λ opening. answer ≡ Ok opening))
    (sym (opening_means value _ _ _ (Ok c.in-Ok.setup) nested rows increment whole
    (ap in_opening c.in-Ok.ensures.ok) c.judged.ensures.limits)) c.judged.ensures.ok

pub returns-in-Ok-clause-err : goal.returns-in-Ok-clause-err
returns-in-Ok-clause-err c =
    let value = view c.args.value.now in
    let nested : get (codes "setup") value ≡ Some (view c.in-Some-Some.setup.now) =
    sym (rw c.in-Some-Some.is-0 at c.get.ensures) in
    let increment : number_at (codes "increment") value ≡ Some c.in-Some-Some.increment =
    sym (rw c.in-Some-Some.is-1 at c.number_at.ensures) in
    let rows : short_rows_in value ≡ Some c.in-Some.demands =
    sym (rw c.in-Some.is at c.in_ok-demands.ensures) in
    let whole : has_members 3 value ≡ true = sym c.has_members.ensures ∙ c.if-not-has_members.false in
    subst (λ answer. IfErr c.judged.result (IsRefusal NoMemory answer))
    (sym (opening_means value _ _ _ (Ok c.in-Ok.setup) nested rows increment whole
    (ap in_opening c.in-Ok.ensures.ok) c.judged.ensures.limits)) c.judged.ensures.err

pub returns-in-Err-clause-err : goal.returns-in-Err-clause-err
returns-in-Err-clause-err c = λ known.
    let value = view c.args.value.now in
    let nested : get (codes "setup") value ≡ Some (view c.in-Some-Some.setup.now) =
    sym (rw c.in-Some-Some.is-0 at c.get.ensures) in
    let increment : number_at (codes "increment") value ≡ Some c.in-Some-Some.increment =
    sym (rw c.in-Some-Some.is-1 at c.number_at.ensures) in
    let rows : short_rows_in value ≡ Some c.in-Some.demands =
    sym (rw c.in-Some.is at c.in_ok-demands.ensures) in
    let whole : has_members 3 value ≡ true = sym c.has_members.ensures ∙ c.if-not-has_members.false in
    let other : c.in-Err.fault ≢ setup_faults.NoMemory = search rules in
    opening_means value _ _ _ (Err (Setup c.in-Err.fault)) nested rows increment whole
    (ap in_opening (c.in-Err.ensures.err other)) tt
