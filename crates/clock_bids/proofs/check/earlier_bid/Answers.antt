-- The last bid is the one directly before, or that of the table, which then has all bids before.
use Rattle.std.specs.Option.{option_copied}
use Rattle.clock_bids.proofs.LastBids.{last_read}
use Rattle.clock_bids.proofs.check.earlier_bid.Goals as goal

pub returns-clause-last : goal.returns-clause-last
returns-clause-last c =
    last_read c.args.products c.args.bids.now c.args.place c.add.new.self.places.items c.as_slice.result.now
    c.args.product (option_copied c.last_bid.result) c.in_ok-add.ensures.places c.as_slice.ensures.value
    c.last_bid.ensures
