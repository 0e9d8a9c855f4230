-- A set-up within its limits is what its JSON value means.
use Rattle.std.proofs.Common.{◌≡◌, Ok, sym, ap, ◌∙◌, subst}
use Rattle.clock_terms.specs.Faults.{unless}
use Rattle.clock_terms.specs.Limits.{SetupFields}
use Rattle.clock_setup.specs.SetupData.{setup_data}
use Rattle.clock_setup.specs.SetupDocument.{setup_of}
use Rattle.clock_setup.proofs.ScanLaws.{setup_judged}
use Rattle.clock_setup.proofs.setup_scan.NestedSetupPartReader.part.Goals as goal

pub invariant_of-result : goal.invariant_of-result
invariant_of-result c =
    let scanned = c.in_ok-scanned.scanned in
    let judged : setup_of (setup_data scanned.entries) ≡ Ok c.in-Ok.setup =
    setup_judged scanned.entries scanned.version scanned.first_version
    ∙ ap (λ fault. unless fault scanned.entries) c.in-Ok.ensures.ok ∙ ap Ok (sym c.in-Ok.ensures.same) in
    record {
      accepted = subst (λ (entries : SetupFields). setup_of (setup_data entries) ≡ Ok c.in-Ok.setup)
          (sym c.in-Ok.ensures.same) judged;
    }
