use Rattle.clock_terms.specs.Limits.{public_setup}
use Rattle.clock_bids.specs.Holding.{holding_of}
use Rattle.clock_bids.proofs.Good.{empty_sheet_good}
use Rattle.clock_rules_tests.proofs.bids.asked.Goals as goal

pub changes_of-requires-clause-good : goal.changes_of-requires-clause-good
changes_of-requires-clause-good g c =
    empty_sheet_good (public_setup c.args.setup.now) c.args.own.round c.args.prices.now (holding_of c.args.own)
