-- If the document was read by bytes, it has the JSON value of the set-up that was read, and only the limits are left.
use Rattle.std.proofs.Common.{◌≡◌, Ok, IfOk, IfErr, sym, subst}
use Rattle.clock_terms.specs.Faults.{IsRefusal}
use Rattle.clock_setup.specs.SetupData.{setup_data}
use Rattle.clock_setup.specs.SetupDocument.{setup_of}
use Rattle.clock_setup.specs.declared.fault.SetupFault.TheVariants.{NoMemory}
use Rattle.clock_setup.proofs.ScanLaws.{document_is, setup_judged, judged_ok, judged_err}
use Rattle.clock_setup.proofs.document.read_setup.Goals as goal

pub returns-in-Some-clause-ok : goal.returns-in-Some-clause-ok
returns-in-Some-clause-ok c =
    let scanned = c.in-Some.scanned in
    subst (λ answer. IfOk c.within_limits-judged.result (λ setup. answer ≡ Ok setup))
    (sym (document_is c.args.bytes.now scanned.entries (rw c.in-Some.is at c.in_ok-scanned.ensures.text)
    (rw c.in-Some.is at c.in_ok-scanned.ensures.value))) (judged_ok (setup_of (setup_data scanned.entries))
    scanned.entries c.within_limits-judged.result (setup_judged scanned.entries scanned.version scanned.first_version)
    c.within_limits-judged.ensures.same c.within_limits-judged.ensures.ok)

pub returns-in-Some-clause-err : goal.returns-in-Some-clause-err
returns-in-Some-clause-err c =
    let scanned = c.in-Some.scanned in
    subst (λ answer. IfErr c.within_limits-judged.result (IsRefusal NoMemory answer))
    (sym (document_is c.args.bytes.now scanned.entries (rw c.in-Some.is at c.in_ok-scanned.ensures.text)
    (rw c.in-Some.is at c.in_ok-scanned.ensures.value)))
    (judged_err (setup_of (setup_data scanned.entries)) scanned.entries c.within_limits-judged.result
    (setup_judged scanned.entries scanned.version scanned.first_version) c.within_limits-judged.ensures.err)
