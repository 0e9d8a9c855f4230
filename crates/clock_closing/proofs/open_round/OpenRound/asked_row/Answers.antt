-- Proves that the requested demands of a sheet are a row, from the checks that the sheet has passed.
use Rattle.std.proofs.Common.{◌≡◌, length, subst, sym}
use Rattle.std.specs.Prelude.{IfOk}
use Rattle.std.proofs.lemmas.Result.{IfOk-weaker}
use Rattle.clock_terms.specs.Limits.{IsRow}
use Rattle.clock_bids.specs.Sheet.{asked_demands}
use Rattle.clock_closing.specs.OpenRound.{OpenRoundFields, bids_at}
use Rattle.clock_closing.proofs.Steps.{asked_row, capped_bids, is_open, known_bids}
use Rattle.clock_closing.proofs.open_round.OpenRound.asked_row.Goals as goal

pub asked_row-requires-clause-products : goal.asked_row-requires-clause-products
asked_row-requires-clause-products c = rw (c.bids_of.ensures, c.sheet.ensures, ← c.self.view_is)
    (known_bids _ c.self.invariant.1 c.args.bidder (rw (← c.self.view_is) at c.requires))

pub asked_row-requires-clause-capped : goal.asked_row-requires-clause-capped
asked_row-requires-clause-capped c = rw (c.bids_of.ensures, c.sheet.ensures, ← c.self.view_is)
    (capped_bids _ c.self.invariant.1 c.args.bidder (rw (← c.self.view_is) at c.requires))

pub returns-clause-asked : goal.returns-clause-asked
returns-clause-asked c =
    let asked = rw (c.bids_of.ensures, c.sheet.ensures) at c.asked_row.ensures in
    subst (λ (round : OpenRoundFields). IfOk c.asked_row.result (λ row. row
    ≡ asked_demands (length round.setup.products) (bids_at c.args.self.now.before.sheets c.args.bidder)))
    c.self.view_is asked

pub returns-clause-row : goal.returns-clause-row
returns-clause-row c =
    let good = asked_row c.args.self.now (is_open c.self.view_is c.self.invariant.1) c.args.bidder c.requires in
    IfOk-weaker c.asked_row.result _ _ (λ row is. subst (IsRow c.args.self.now.setup.products) (sym is) good)
    (returns-clause-asked c)
