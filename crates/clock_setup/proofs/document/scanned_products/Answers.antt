-- The document has the JSON value of the set-up that was read, and only the limits are left.
use Rattle.std.proofs.Common.{◌≡◌, None, Some, ap, sym, subst, ◌∙◌}
use Rattle.clock_terms.specs.Faults.{unless, first_fault}
use Rattle.clock_terms.specs.Limits.{SetupFields}
use Rattle.clock_setup.specs.SetupDocument.{setup_checks}
use Rattle.clock_setup.specs.declared.setup_tree.ScannedSetup.{ScannedSetup}
use Rattle.clock_setup.proofs.ScanLaws.{document_is, setup_judged}
use Rattle.clock_setup.proofs.document.scanned_products.Goals as goal

pub returns-in-Ok-clause-ok : goal.returns-in-Ok-clause-ok
returns-in-Ok-clause-ok c =
    let scanned = c.in-Some.scanned in
    let setup = scanned.entries in
    let passed : first_fault (setup_checks setup) ≡ None =
    subst (λ (s : SetupFields). first_fault (setup_checks s) ≡ None)
    (ap (λ (s : ScannedSetup). s.entries) c.scanned.view_is) c.in-Ok.ensures.ok in (
      setup,
      document_is c.args.bytes.now setup (rw c.in-Some.is at c.in_ok-scanned.ensures.text)
          (rw c.in-Some.is at c.in_ok-scanned.ensures.value)
          ∙ setup_judged setup scanned.version scanned.first_version
          ∙ ap (λ fault. unless fault setup) passed,
      sym (ap (λ (s : ScannedSetup). s.entries.products) c.scanned.view_is),
    )

pub returns-clause-err : goal.returns-clause-err
returns-clause-err c =
    let scanned = c.in-Some.scanned in
    let setup = scanned.entries in
    λ known. document_is c.args.bytes.now setup (rw c.in-Some.is at c.in_ok-scanned.ensures.text)
    (rw c.in-Some.is at c.in_ok-scanned.ensures.value)
    ∙ setup_judged setup scanned.version scanned.first_version
    ∙ ap (λ fault. unless fault setup) (subst (λ (s : SetupFields). first_fault (setup_checks s) ≡ Some c.in-Err.fault)
    (ap (λ (s : ScannedSetup). s.entries) c.scanned.view_is) (c.in-Err.ensures.err known))
