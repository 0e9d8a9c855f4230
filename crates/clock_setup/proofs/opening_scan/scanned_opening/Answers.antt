-- If the document was read by bytes, its set-up was accepted, and only the checks after the set-up are left.
use Rattle.std.proofs.Common.{◌≡◌, Ok, IfOk, IfSome, sym, subst}
use Rattle.clock_setup.proofs.ScannedOpeningLaws.{opening_read}
use Rattle.clock_setup.proofs.opening_scan.scanned_opening.Goals as goal

pub returns-clause-ok : goal.returns-clause-ok
returns-clause-ok c =
    subst (λ answer. IfOk c.accepted.result (λ found. IfSome found (λ opening. answer ≡ Ok opening)))
    (sym (opening_read c.args.bytes.now (c.in-Some.nested, c.in-Some.demands, c.in-Some.increment)
    (rw c.in-Some.is at c.in_ok-nested.ensures.text) (rw c.in-Some.is at c.in_ok-nested.ensures.value)))
    c.accepted.ensures.ok
