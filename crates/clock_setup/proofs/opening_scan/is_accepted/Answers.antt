-- The demands are within their caps, so the sum over the positive ones is the bidder's activity.
use Rattle.std.proofs.Common.{rules, refl}
use Rattle.clock_setup.proofs.OpeningLaws.{row_passed, capped_pass}
use Rattle.clock_setup.proofs.opening_scan.is_accepted.Goals as goal

pub returns-in-Some-clause-row : goal.returns-in-Some-clause-row
returns-in-Some-clause-row c =
    λ passes. record { each = c.requires.each; capped = λ k below. c.in-Some.ensures.capped k below }

pub returns-in-Some-clause-passed : goal.returns-in-Some-clause-passed
returns-in-Some-clause-passed c =
    let products = c.args.products.now in
    let row = c.args.row.now in
    λ passes number. row_passed refl number c.args.bidder.now row c.in-Some.units
    (capped_pass number products row c.requires.each c.in-Some.ensures.capped) c.in-Some.ensures.exact (search rules)
