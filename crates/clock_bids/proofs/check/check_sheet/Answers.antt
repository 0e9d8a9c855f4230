-- A sheet is a copy of bids without a fault.
use Rattle.std.proofs.lemmas.Result.{err_from_is_err_and}
use Rattle.clock_bids.proofs.check.check_sheet.Goals as goal

pub returns-in_err-check_bids-clause-fault : goal.returns-in_err-check_bids-clause-fault
returns-in_err-check_bids-clause-fault c =
    let reported = err_from_is_err_and c.from_residual.result c.from_residual.ensures.1 in
    rw (reported.1, reported.2) c.in_err-check_bids.ensures.fault

pub returns-in_err-check_bids-clause-many : goal.returns-in_err-check_bids-clause-many
returns-in_err-check_bids-clause-many c =
    let reported = err_from_is_err_and c.from_residual.result c.from_residual.ensures.1 in
    rw (reported.1, reported.2) (λ over. let same = c.in_err-check_bids.ensures.many over in cc)

pub returns-in_err-from_slice-clause-fault : goal.returns-in_err-from_slice-clause-fault
returns-in_err-from_slice-clause-fault c =
    let reported =
    err_from_is_err_and c.from_residual-in_err-from_slice.result c.from_residual-in_err-from_slice.ensures.1 in
    rw reported.1 (λ other. absurd (other reported.2))

pub returns-in_err-from_slice-clause-many : goal.returns-in_err-from_slice-clause-many
returns-in_err-from_slice-clause-many c = λ over. let bad = c.in_ok-check_bids.ensures.many over in cc

pub returns-clause-good : goal.returns-clause-good
returns-clause-good c = c.in_ok-check_bids.ensures.good

pub returns-clause-many : goal.returns-clause-many
returns-clause-many c = λ over. let bad = c.in_ok-check_bids.ensures.many over in cc
