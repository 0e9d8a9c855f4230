-- The table has no entry, the entry of no bid, or that of the last bid.
use Rattle.clock_bids.proofs.LastBids.{past_table, no_place, some_place}
use Rattle.clock_bids.proofs.check.last_bid.Goals as goal

pub returns-in_err-place : goal.returns-in_err-place
returns-in_err-place c = rw c.from_residual.ensures
    (past_table c.args.bids.now c.args.places.now c.args.product c.in_err-place.ensures.lookup.0)

pub returns-in_err-checked_sub : goal.returns-in_err-checked_sub
returns-in_err-checked_sub c = rw c.from_residual-in_err-checked_sub.ensures (no_place c.args.bids.now
    c.args.places.now c.args.product c.in_ok-place.field-0.now c.in_ok-place.ensures.lookup.0
    c.in_ok-place.ensures.lookup.1 c.in_err-checked_sub.ensures)

pub returns : goal.returns
returns c =
    let found = c.in_ok-place.ensures.lookup in
    let before = c.in_ok-checked_sub.ensures in
    some_place c.args.bids.now c.args.places.now c.args.product c.in_ok-place.field-0.now c.in_ok-checked_sub.field-0
    c.get-2.result found.0 found.1 before.0 before.1 c.get-2.ensures.lookup.0 c.get-2.ensures.lookup.1
