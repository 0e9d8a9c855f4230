-- Proves that the house after a closing stands for one more command, and that what it stores agrees with its closed
-- rounds.
use Rattle.std.proofs.Common.{◌≡◌, ℕ, List, [], ◌∷◌, ◌++◌, Bool, true, refl, ap, sym, subst, ◌∙◌}
use Rattle.std.proofs.Common.{arith, length}
use Rattle.std.specs.Prelude.{Option, None, map, reverse, is_ok, if◌then◌else◌}
use Rattle.std.specs.List.{range_with_len}
use Rattle.std.proofs.lemmas.List.{reverse-append}
use Rattle.clock_terms.specs.Limits.{IsSetup}
use Rattle.clock_bids.specs.declared.sheet.Bid.{Bid}
use Rattle.clock_house.specs.Command.{close}
use Rattle.clock_closing.specs.declared.closed_round.Slip.{Slip}
use Rattle.clock_closing.specs.inside.OpenRound.{eligibilities_of}
use Rattle.clock_house.specs.PublicState.{Holding, state_after}
use Rattle.clock_house.specs.History.{ClosedRound, public_state}
use Rattle.clock_house.specs.House.{HouseFields, StandsFor, state_in}
use Rattle.clock_house.specs.inside.OpenRounds.{open_round_in}
use Rattle.clock_house.proofs.InHouse.{many_eligibilities}
use Rattle.clock_house.proofs.Stored.{stands_sheets, stands_sound}
use Rattle.clock_house.proofs.Bounds.{round_bounded}
use Rattle.clock_house.proofs.Closes.{close-accepted, fits_like, closed_number, closed_slips, taken_prices}
use Rattle.clock_house.proofs.Rows.{next_held}
use Rattle.clock_house.proofs.house.House.commit.Goals as goal

pub round_after-self-inside-requires : goal.round_after-self-inside-requires
round_after-self-inside-requires g c =
    let number = closed_number c.args.self.now c.args.prepared.round c.args.prepared.increments c.args.prepared.ties
    c.args.prepared.closed c.requires.fits in
    let limits = subst (λ (house : HouseFields). IsSetup house.setup) c.self.view_is c.self.invariant.limits in
    let stands = subst (StandsFor c.self.invariant.commands) c.self.view_is c.self.invariant.stands in
    omega (
      arith,
      ap (λ (one : ClosedRound). one.sheet.round) c.parts_of-closed.ensures.closed,
      number.1,
      round_bounded c.args.self.now.setup.products (state_in c.args.self.now) limits.product_count.1
          ((stands_sound c.args.self.now limits c.self.invariant.commands stands).priced number.0),
    )

pub take_slips-requires-clause-eligibilities : goal.take_slips-requires-clause-eligibilities
take_slips-requires-clause-eligibilities g c =
    let slips = closed_slips c.args.self.now c.args.prepared.round c.args.prepared.increments c.args.prepared.ties
    c.args.prepared.closed c.requires.fits in
    let are = subst (λ (house : HouseFields). c.self.inside.eligibilities
    ≡ eligibilities_of (open_round_in house)) c.self.view_is c.self.invariant.eligibilities_are in
    ap length c.as_slice-slips.ensures
    ∙ ap (λ (one : ClosedRound). length one.slips) c.parts_of-closed.ensures.closed
    ∙ slips
    ∙ sym (many_eligibilities c.args.self.now c.self.inside.eligibilities are)

pub take_slips-requires-clause-sheets : goal.take_slips-requires-clause-sheets
take_slips-requires-clause-sheets g c =
    let slips = closed_slips c.args.self.now c.args.prepared.round c.args.prepared.increments c.args.prepared.ties
    c.args.prepared.closed c.requires.fits in
    let setup = ap (λ (house : HouseFields). length house.setup.bidders) c.self.view_is in
    ap length c.as_slice-slips.ensures
    ∙ ap (λ (one : ClosedRound). length one.slips) c.parts_of-closed.ensures.closed
    ∙ slips
    ∙ sym (stands_sheets _ c.self.invariant.commands c.self.invariant.stands ∙ setup)

pub unwrap-requires : goal.unwrap-requires
unwrap-requires g c = c.push.ensures.succeeds (omega (arith, (rw (← c.self.view_is) at c.requires.room)))

-- The closed round comes first in the list that has the newest first.
is_added : (before after : List ClosedRound) (pushed : Bool) (made closed : ClosedRound) → pushed ≡ true →
    after ≡ (if pushed then before ++ made ∷ [] else before) → made ≡ closed → reverse after ≡ closed ∷ reverse before
is_added before after pushed made closed done is same = ap reverse (rw done at is) ∙ reverse-append before (made ∷ [])
    ∙ ap (λ (one : ClosedRound). one ∷ reverse before) same

pub invariant_of-self : goal.invariant_of-self
invariant_of-self g c =
    let house : HouseFields = record {
      setup = c.self.inside.setup;
      closed = reverse c.self.inside.rounds.items;
      sheets = c.self.inside.sheets;
      spare = 0;
    } in
    let asked = c.args.prepared in
    let made = c.parts_of-closed.result in
    let fits = fits_like _ c.args.self.now c.args.prepared (sym c.self.view_is) c.requires.fits in
    let done = c.parts_of-closed.ensures.closed in
    let added = is_added c.self.inside.rounds.items c.push.new.self.items
    (is_ok c.push.result) c.parts_of-closed.result.0 c.args.prepared.closed
    (c.push.ensures.succeeds (omega (arith, (rw (← c.self.view_is) at c.requires.room)))) c.push.ensures.items done in
    let none = c.take_slips.ensures.sheets ∙ ap (λ (n : ℕ). map (λ (bidder : ℕ). let sheet : Option (List Bid) = None in
    sheet) (range_with_len 0 n)) (stands_sheets _ c.self.invariant.commands c.self.invariant.stands) in
    let slips = closed_slips house asked.round asked.increments asked.ties asked.closed fits in
    record {
      limits = c.self.invariant.limits;
      commands = close asked.round asked.increments asked.ties ∷ c.self.invariant.commands;
      stands = close-accepted _ asked.round asked.increments asked.ties c.self.invariant.commands
          c.self.invariant.stands asked.closed _ _ _ fits added none;
      ended_is = ap (λ (one : ClosedRound). one.sheet.ended) done
          ∙ sym (ap (λ (closed : List ClosedRound). (public_state c.self.inside.setup.products closed).ended) added);
      round_is = c.round_after-self-inside.ensures
          ∙ ap (λ (one : ClosedRound). (state_after one.sheet).round) done
          ∙ sym (ap (λ (closed : List ClosedRound). (public_state c.self.inside.setup.products closed).round) added);
      prices_are = λ going.
          c.take_prices.ensures
          ∙ taken_prices made.1 c.self.inside.prices made.0.sheet.lines made.0.sheet.ended going
          c.parts_of-closed.ensures.consistent.end c.parts_of-closed.ensures.consistent.shown
          ∙ ap (λ (one : ClosedRound). (state_after one.sheet).prices) done
          ∙ sym (ap (λ (closed : List ClosedRound). (public_state c.self.inside.setup.products closed).prices) added);
      eligibilities_are = next_held c.self.inside.setup
          (λ (held : Holding). held.eligibility) 0 _ made.0 asked.closed _ _ (c.take_slips.ensures.eligibilities
          ∙ ap (map (λ (slip : Slip). slip.eligibility)) c.as_slice-slips.ensures) done slips added;
      demands_are = next_held c.self.inside.setup (λ (held : Holding). held.demands) [] _ made.0 asked.closed _
          _ (c.take_demands.ensures ∙ c.parts_of-closed.ensures.consistent.demands) done slips added;
    }

pub returns-clause-closed : goal.returns-clause-closed
returns-clause-closed g c =
    let added = is_added c.self.inside.rounds.items c.push.new.self.items
    (is_ok c.push.result) c.parts_of-closed.result.0 c.args.prepared.closed
    (c.push.ensures.succeeds (omega (arith, (rw (← c.self.view_is) at c.requires.room)))) c.push.ensures.items
    c.parts_of-closed.ensures.closed in
    let none = c.take_slips.ensures.sheets ∙ ap (λ (n : ℕ). map (λ (bidder : ℕ). let sheet : Option (List Bid) = None in
    sheet) (range_with_len 0 n)) (stands_sheets _ c.self.invariant.commands c.self.invariant.stands) in
    rw (← c.self.view_is) (record { setup = refl; closed = added; sheets = none })

pub returns-clause-followed : goal.returns-clause-followed
returns-clause-followed g c =
    let asked = c.args.prepared in
    let fits = fits_like _ c.args.self.now c.args.prepared (sym c.self.view_is) c.requires.fits in
    let added = is_added c.self.inside.rounds.items c.push.new.self.items
    (is_ok c.push.result) c.parts_of-closed.result.0 c.args.prepared.closed
    (c.push.ensures.succeeds (omega (arith, (rw (← c.self.view_is) at c.requires.room)))) c.push.ensures.items
    c.parts_of-closed.ensures.closed in
    let none = c.take_slips.ensures.sheets ∙ ap (λ (n : ℕ). map (λ (bidder : ℕ). let sheet : Option (List Bid) = None in
    sheet) (range_with_len 0 n)) (stands_sheets _ c.self.invariant.commands c.self.invariant.stands) in
    rw (← c.self.view_is)
    (record {
      setup = refl;
      stands = λ commands stands.
          close-accepted _ asked.round asked.increments asked.ties commands stands asked.closed _ _ _ fits added none;
    })
