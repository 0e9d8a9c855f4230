-- Proves that checking a copy of the bids is checking the bids.
use Rattle.std.proofs.Common.{List, subst}
use Rattle.clock_bids.specs.declared.sheet.Bid.{Bid}
use Rattle.clock_house.specs.House.{AnswersPut, AnswersByView, put_fault_in}
use Rattle.clock_house.proofs.house.House.prepare_put.Goals as goal

pub returns-clause-answer : goal.returns-clause-answer
returns-clause-answer g c = subst (λ (bids : List Bid). AnswersPut (put_fault_in c.args.self.now c.args.bidder
    c.args.round bids) c.prepare_sheet.result) c.in_ok-from_slice.ensures c.prepare_sheet.ensures.answer

pub returns-clause-seen : goal.returns-clause-seen
returns-clause-seen g c =
    subst (λ (bids : List Bid). AnswersByView c.args.self.now c.args.bidder c.args.round bids c.prepare_sheet.result)
    c.in_ok-from_slice.ensures c.prepare_sheet.ensures.seen

pub returns-clause-fits : goal.returns-clause-fits
returns-clause-fits g c = c.prepare_sheet.ensures.fits

pub returns-clause-followed : goal.returns-clause-followed
returns-clause-followed g c = rw c.in_ok-from_slice.ensures at c.prepare_sheet.ensures.followed
