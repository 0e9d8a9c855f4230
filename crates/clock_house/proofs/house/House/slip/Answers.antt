-- Proves that the results returned are the bidder's of the closed round, and follow from its view.
use Rattle.std.proofs.Common.{◌≡◌, ◌<◌, ℕ, List, [], length, get_or, ap, sym, ◌∙◌, arith, rules}
use Rattle.std.specs.Prelude.{Some, option_map}
use Rattle.std.proofs.lemmas.List.{get_or_read}
use Rattle.clock_closing.specs.declared.closed_round.Slip.{Slip}
use Rattle.clock_house.specs.History.{ClosedRound, slip_of}
use Rattle.clock_house.proofs.Stored.{stands_numbered, numbered_whole}
use Rattle.clock_house.proofs.Seen.{slip_seen}
use Rattle.clock_house.proofs.house.House.slip.Goals as goal

-- The results at a bidder's index are the bidder's.
own_slip : (closed : ClosedRound) (bidder : ℕ) (slips : List Slip) (slip : Slip) → slips ≡ closed.slips
    → bidder < length slips → slip ≡ get_or slips bidder slip → slip ≡ slip_of bidder closed
own_slip closed bidder slips slip same in_range is =
    let none : Slip = record { round = 0; activity = 0; eligibility = 0; demands = [] } in
    get_or_read slips bidder slip in_range is none ∙ ap (λ (list : List Slip). get_or list bidder none) same

pub bounds-as_slice-bidder : goal.bounds-as_slice-bidder
bounds-as_slice-bidder g c =
    let all = stands_numbered _ c.self.invariant.commands c.self.invariant.stands in
    let found = rw c.as_slice.ensures.value at c.in_ok-closed_at.ensures in
    let whole = numbered_whole _ _ c.args.round _ c.in_ok-closed_at.field-0.now all (sym found) in
    let known = rw (← c.self.view_is) at c.requires in
    omega (arith, whole.0, known, ap length c.as_slice-2.ensures)

pub returns-clause-found : goal.returns-clause-found
returns-clause-found g c =
    let all = stands_numbered _ c.self.invariant.commands c.self.invariant.stands in
    let found = rw c.as_slice.ensures.value at c.in_ok-closed_at.ensures in
    let whole = numbered_whole _ _ c.args.round _ c.in_ok-closed_at.field-0.now all (sym found) in
    let known = rw (← c.self.view_is) at c.requires in
    let in_range : c.args.bidder < length c.as_slice-2.result.now =
    omega (arith, whole.0, known, ap length c.as_slice-2.ensures) in
    rw (← c.self.view_is) (ap Some (own_slip c.in_ok-closed_at.field-0.now c.args.bidder c.as_slice-2.result.now
    c.index-as_slice-bidder.result c.as_slice-2.ensures in_range c.index-as_slice-bidder.is)
    ∙ ap (option_map (slip_of c.args.bidder)) found)

pub returns-in_err-closed_at-clause-found : goal.returns-in_err-closed_at-clause-found
returns-in_err-closed_at-clause-found g c = search rules

pub returns-clause-seen : goal.returns-clause-seen
returns-clause-seen g c =
    λ commands stands. returns-clause-found g c ∙ slip_seen _ c.args.bidder commands stands c.args.round

pub returns-in_err-closed_at-clause-seen : goal.returns-in_err-closed_at-clause-seen
returns-in_err-closed_at-clause-seen g c = λ commands stands. returns-in_err-closed_at-clause-found g c
    ∙ slip_seen _ c.args.bidder commands stands c.args.round
