-- A sheet has the fault of its bids.
use Rattle.std.proofs.Common.{List, subst}
use Rattle.clock_terms.specs.Limits.{public_setup}
use Rattle.clock_terms.specs.Faults.{IsFirstFault}
use Rattle.clock_bids.specs.declared.sheet.Bid.{Bid}
use Rattle.clock_bids.specs.declared.sheet.BidFault.TheVariants.{NoMemory}
use Rattle.clock_bids.specs.Holding.{holding_of}
use Rattle.clock_bids.specs.Sheet.{IsGoodSheet, sheet_fault}
use Rattle.clock_bids.proofs.check.take_sheet.Goals as goal

pub returns-in-Ok-clause-good : goal.returns-in-Ok-clause-good
returns-in-Ok-clause-good c = subst (λ (list : List Bid). IsGoodSheet (public_setup c.args.setup.now) c.args.own.round
    c.args.prices.now (holding_of c.args.own) list) c.as_slice.ensures c.in-Ok.ensures.good

pub returns-in-Ok-clause-many : goal.returns-in-Ok-clause-many
returns-in-Ok-clause-many c = λ over. let bad = (rw c.as_slice.ensures at c.in-Ok.ensures.many) over in cc

pub returns-in-Err-clause-fault : goal.returns-in-Err-clause-fault
returns-in-Err-clause-fault c = subst (λ (list : List Bid). IsFirstFault NoMemory (sheet_fault
    (public_setup c.args.setup.now) c.args.own.round c.args.prices.now (holding_of c.args.own) list) c.in-Err.fault)
    c.as_slice.ensures c.in-Err.ensures.fault

pub returns-in-Err-clause-many : goal.returns-in-Err-clause-many
returns-in-Err-clause-many c = λ over. let same = (rw c.as_slice.ensures at c.in-Err.ensures.many) over in cc
