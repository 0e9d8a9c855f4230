-- Proves that the round results returned are those of the closed round, and follow from every bidder's view.
use Rattle.std.proofs.Common.{ap, sym, ◌∙◌, rules}
use Rattle.std.specs.Prelude.{option_map}
use Rattle.clock_house.specs.History.{ClosedRound}
use Rattle.clock_house.proofs.Stored.{numbered_whole, stands_numbered}
use Rattle.clock_house.proofs.Seen.{sheet_seen}
use Rattle.clock_house.proofs.house.House.sheet.Goals as goal

pub returns-clause-found : goal.returns-clause-found
returns-clause-found g c = rw (← c.self.view_is)
    (ap (option_map (λ (one : ClosedRound). one.sheet)) (rw c.as_slice.ensures.value at c.in_ok-closed_at.ensures))

pub returns-in_err-closed_at-clause-found : goal.returns-in_err-closed_at-clause-found
returns-in_err-closed_at-clause-found g c = search rules

pub returns-clause-seen : goal.returns-clause-seen
returns-clause-seen g c =
    λ bidder commands stands. returns-clause-found g c ∙ sheet_seen _ bidder commands stands c.args.round

pub returns-in_err-closed_at-clause-seen : goal.returns-in_err-closed_at-clause-seen
returns-in_err-closed_at-clause-seen g c = λ bidder commands stands. returns-in_err-closed_at-clause-found g c
    ∙ sheet_seen _ bidder commands stands c.args.round

pub returns-clause-lines : goal.returns-clause-lines
returns-clause-lines g c =
    let all = stands_numbered _ c.self.invariant.commands c.self.invariant.stands in
    let found = rw c.as_slice.ensures.value at c.in_ok-closed_at.ensures in
    rw (← c.self.view_is) (numbered_whole _ _ c.args.round _ c.in_ok-closed_at.field-0.now all (sym found)).1
