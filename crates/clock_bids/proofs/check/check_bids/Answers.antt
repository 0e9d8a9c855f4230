-- The checks in order: a fault of a bid is the sheet's; if there is none, the limit in the code is the activity limit,
-- and only the requested activity is left.
use Rattle.std.proofs.Common.{◌<◌, ◌≤◌, ◌≡◌, length, arith, rules}
use Rattle.std.proofs.lemmas.Result.{err_from_is_err_and}
use Rattle.clock_terms.specs.Limits.{public_setup}
use Rattle.clock_terms.specs.Eligibility.{activity}
use Rattle.clock_bids.specs.Holding.{holding_of, activity_limit}
use Rattle.clock_bids.specs.Sheet.{asked_demands, most_bids}
use Rattle.clock_bids.proofs.Good.{sheet_fault-of_bid, sheet_fault-over, sheet_fault-none}
use Rattle.clock_bids.proofs.check.check_bids.Goals as goal

pub returns-in_err-taken-clause-fault : goal.returns-in_err-taken-clause-fault
returns-in_err-taken-clause-fault c =
    let few : length c.args.bids.now ≤ most_bids =
    omega (arith, c.if-bids-gt-MOST_BIDS.false) in
    let found = rw c.as_slice.ensures at c.in_err-taken.ensures.fault in
    let reported = err_from_is_err_and c.from_residual.result c.from_residual.ensures.1 in
    rw (reported.1, reported.2) (λ known. sheet_fault-of_bid (public_setup c.args.setup.now) c.args.own.round
    c.args.prices.now (holding_of c.args.own) c.args.bids.now few c.in_err-taken.field-0.0 (found known))

pub returns-then-taken-limit-clause-fault : goal.returns-then-taken-limit-clause-fault
returns-then-taken-limit-clause-fault c =
    let setup = public_setup c.args.setup.now in
    let holding = holding_of c.args.own in
    let few : length c.args.bids.now ≤ most_bids =
    omega (arith, c.if-bids-gt-MOST_BIDS.false) in
    let good = rw c.as_slice.ensures at c.in_ok-taken.ensures.ok in
    let taken = c.in_ok-taken.ensures.taken in
    let limit : c.match-own.limit ≡ activity_limit setup c.args.own.round holding.eligibility =
    elim c.match-own.branch [ goal.in-1 w ↦ search rules | goal.in_default w ↦ search rules ] in
    let over : activity_limit setup c.args.own.round holding.eligibility < activity setup.products
    (asked_demands (length setup.products) c.args.bids.now) = omega (arith, c.if-taken-limit.true, limit, taken) in
    λ known. sheet_fault-over setup c.args.own.round c.args.prices.now holding c.args.bids.now few good over

pub returns-clause-good : goal.returns-clause-good
returns-clause-good c =
    let setup = public_setup c.args.setup.now in
    let holding = holding_of c.args.own in
    let few : length c.args.bids.now ≤ most_bids =
    omega (arith, c.if-bids-gt-MOST_BIDS.false) in
    let good = rw c.as_slice.ensures at c.in_ok-taken.ensures.ok in
    let taken = c.in_ok-taken.ensures.taken in
    let limit : c.match-own.limit ≡ activity_limit setup c.args.own.round holding.eligibility =
    elim c.match-own.branch [ goal.in-1 w ↦ search rules | goal.in_default w ↦ search rules ] in
    let within : activity setup.products (asked_demands (length setup.products) c.args.bids.now)
    ≤ activity_limit setup c.args.own.round holding.eligibility = omega (arith, c.if-taken-limit.false, limit, taken) in
    sheet_fault-none setup c.args.own.round c.args.prices.now holding c.args.bids.now few good within
