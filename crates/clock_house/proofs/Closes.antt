-- Proves what a closing does to the commands that a house stands for, case by case: accepted, refused, or out of
-- memory.
use Rattle.std.proofs.Common.{◌≡◌, ◌≢◌, ℕ, List, [], ◌∷◌, Bool, true, false, not, ◌==◌, length, refl, ap, sym, subst}
use Rattle.std.proofs.Common.{◌∙◌}
use Rattle.std.specs.Prelude.{Option, Some, None, Result, Ok, Err, ◌↔◌, IsNone, IsTrue, IfSome, IfOk, IfErr, map}
use Rattle.std.specs.Prelude.{unwrap_or}
use Rattle.std.proofs.lemmas.Option.{none-some}
use Rattle.clock_terms.specs.Faults.{IsFirstFault, IsRefusal, first_fault, unless}
use Rattle.clock_terms.specs.Increments.{are_increments}
use Rattle.clock_order.specs.declared.ties.TieFault.{TieFault}
use Rattle.clock_order.specs.Ties.{tie_fault}
use Rattle.clock_posting.specs.Posting.{price_limit_fault}
use Rattle.clock_terms.specs.declared.prices.PricePair.{PricePair}
use Rattle.clock_posting.specs.Posting.{next_pair}
use Rattle.clock_posting.specs.declared.sheet.Line.{Line}
use Rattle.clock_terms.specs.declared.increments.Increments.{Increments}
use Rattle.clock_terms.specs.Limits.{SetupFields, public_setup}
use Rattle.clock_bids.specs.declared.sheet.Bid.{Bid}
use Rattle.clock_order.specs.declared.ties.Tie.{Tie}
use Rattle.clock_closing.specs.declared.fault.CloseFault.{CloseFault}
use Rattle.clock_closing.specs.declared.fault.CloseFault.TheVariants as close_faults
use Rattle.clock_house.specs.Command.{Command, close}
use Rattle.clock_closing.specs.OpenRound.{OpenRound, OpenRoundFields}
use Rattle.clock_closing.specs.Closing.{closing, closing_now, round_result, closed_round}
use Rattle.clock_house.specs.History.{ClosedRound, history, public_state, closing_of, after_closing, for_each_bidder}
use Rattle.clock_house.specs.History.{sheet_in_force}
use Rattle.clock_house.specs.House.{HouseFields, StandsFor, IsFollowedBy, StandsForTheSame, IsUnchanged, HasClosed}
use Rattle.clock_house.specs.House.{AnswersClose, ToHistory}
use Rattle.clock_house.specs.PublicState.{PublicState}
use Rattle.clock_house.specs.House.{state_in, closing_in}
use Rattle.clock_house.specs.inside.OpenRounds.{open_round_in}
use Rattle.clock_house.specs.inside.Rounds.{round_fault}
use Rattle.clock_closing.specs.Prepared.{Answers}
use Rattle.clock_house.specs.Prepared.{PreparedClosing, FitsClosing}
use Rattle.clock_closing.proofs.Closings.{IsClosing, checks, closing_passed}
use Rattle.std.proofs.lemmas.List.FromFn.{length-map-range_with_len}
use Rattle.clock_house.proofs.InHouse.{in-many}
use Rattle.clock_house.proofs.Stored.{stands_open}

module _ (house : HouseFields) (round : ℕ) (increments : Increments) (ties : List Tie) (commands : List Command)
    (stands : StandsFor commands house) where
  -- The closing by the history of the commands is the closing by the house.
  pub closing_same : closing_of house.setup (history house.setup commands) round increments ties
      ≡ closing_in house round increments ties
  closing_same = ap (λ (now : OpenRound). closing (public_setup house.setup) now round increments ties)
      (sym (stands_open house commands stands))

  abbrev closed_with : Result ClosedRound CloseFault → List ClosedRound
  closed_with answer = (after_closing (history house.setup commands) (close round increments ties) answer).closed

  abbrev sheets_with : Result ClosedRound CloseFault → List (Option (List Bid))
  sheets_with answer = for_each_bidder house.setup
      (sheet_in_force house.setup (after_closing (history house.setup commands) (close round increments ties) answer))

  -- An accepted closing adds its round, and no sheet is in force.
  pub close-accepted : (done : ClosedRound) (closed : List ClosedRound) (sheets : List (Option (List Bid))) (spare : ℕ)
      → closing_in house round increments ties ≡ Ok done → closed ≡ done ∷ house.closed
      → sheets ≡ for_each_bidder house.setup (λ bidder. None) → StandsFor (close round increments ties ∷ commands)
      (record { setup = house.setup; closed = closed; sheets = sheets; spare = spare })
  close-accepted done closed sheets spare e added none = record {
    closed =
        added ∙ ap (λ (list : List ClosedRound). done ∷ list) stands.closed ∙ sym (ap closed_with (closing_same ∙ e));
    sheets = none ∙ sym (ap sheets_with (closing_same ∙ e));
  }

  -- A refused closing changes nothing.
  pub close-refused : (fault : CloseFault) → closing_in house round increments ties ≡ Err fault
      → StandsFor (close round increments ties ∷ commands) house
  close-refused fault e = record {
    closed = stands.closed ∙ sym (ap closed_with (closing_same ∙ e));
    sheets = stands.sheets ∙ sym (ap sheets_with (closing_same ∙ e));
  }

-- After a refused closing, the house stands for one more command.
pub close-followed : (house : HouseFields) (round : ℕ) (increments : Increments) (ties : List Tie) (fault : CloseFault)
    → closing_in house round increments ties ≡ Err fault → IsFollowedBy (close round increments ties) house house
close-followed house round increments ties fault e = record {
  setup = refl;
  stands = λ commands stands. close-refused house round increments ties commands stands fault e;
}

-- An equal house accepts the same closing.
pub fits_like : (like house : HouseFields) (prepared : PreparedClosing) → house ≡ like → FitsClosing prepared house →
    closing_in like prepared.round prepared.increments prepared.ties ≡ Ok prepared.closed
fits_like like house prepared same fits = subst (λ (one : HouseFields).
    closing_in one prepared.round prepared.increments prepared.ties ≡ Ok prepared.closed) same fits

-- A house stands for its commands whatever memory it has for further rounds.
pub stands_unchanged : (old new : HouseFields) (commands : List Command) → IsUnchanged old new → StandsFor commands old
    → StandsFor commands new
stands_unchanged old new commands same stands = record {
  closed = same.closed ∙ stands.closed ∙ ap (λ (setup : SetupFields). (history setup commands).closed) (sym same.setup);
  sheets = same.sheets ∙ stands.sheets ∙ ap (λ (setup : SetupFields). for_each_bidder setup
      (sheet_in_force setup (history setup commands))) (sym same.setup);
}

-- An accepted closing is of the current round.
pub closed_number : (house : HouseFields) (round : ℕ) (increments : Increments) (ties : List Tie) (done : ClosedRound) →
    closing_in house round increments ties ≡ Ok done →
    ((state_in house).ended ≡ false) × (done.sheet.round ≡ (state_in house).round)
closed_number house round increments ties done e =
    let is : IsClosing (public_setup house.setup) (open_round_in house) round increments ties done =
    closing_passed (public_setup house.setup) (open_round_in house) round increments ties done e in
    (is.going, ap (λ (one : ClosedRound). one.sheet.round) is.made)

-- An accepted closing has results for each bidder.
pub closed_slips : (house : HouseFields) (round : ℕ) (increments : Increments) (ties : List Tie) (done : ClosedRound) →
    closing_in house round increments ties ≡ Ok done → length done.slips ≡ length house.setup.bidders
closed_slips house round increments ties done e =
    let is : IsClosing (public_setup house.setup) (open_round_in house) round increments ties done =
    closing_passed (public_setup house.setup) (open_round_in house) round increments ties done e in
    ap (λ (one : ClosedRound). length one.slips) is.made ∙ length-map-range_with_len _ 0 _ ∙ in-many house

-- The prices stored for the next round are those of the round results.
pub taken_prices : (next : Option (List PricePair)) (old : List PricePair) (lines : List Line) (ended : Bool)
    → ended ≡ false → (IsNone next ↔ IsTrue ended) → IfSome next (λ list. list ≡ map next_pair lines)
    → unwrap_or next old ≡ map next_pair lines
taken_prices None old lines ended going end shown = let bad : ended ≡ true = end.0 refl in
    let same : false ≡ true = sym going ∙ bad in cc
taken_prices (Some list) old lines ended going end shown = shown

-- A closing does not depend on the memory for further rounds.
closing_unchanged : (old new : HouseFields) → IsUnchanged old new → (round : ℕ) (increments : Increments)
    (ties : List Tie) → closing_in new round increments ties ≡ closing_in old round increments ties
closing_unchanged old new same round increments ties =
    let by = λ (setup : SetupFields) (closed : List ClosedRound) (sheets : List (Option (List Bid))).
    closing_in (record { setup = setup; closed = closed; sheets = sheets; spare = old.spare }) round increments ties in
    ap (λ (setup : SetupFields). by setup new.closed new.sheets) same.setup
    ∙ ap (λ (closed : List ClosedRound). by old.setup closed new.sheets) same.closed
    ∙ ap (by old.setup old.closed) same.sheets

-- Nor does the state of the auction.
pub standing_unchanged : (old new : HouseFields) → IsUnchanged old new → state_in new ≡ state_in old
standing_unchanged old new same = ap (λ (setup : SetupFields). public_state setup.products new.closed) same.setup
    ∙ ap (public_state old.setup.products) same.closed

-- Houses that differ only in this memory stand for the same commands.
pub still_unchanged : (old new : HouseFields) → IsUnchanged old new → StandsForTheSame old new
still_unchanged old new same =
    record { setup = same.setup; stands = λ commands stands. stands_unchanged old new commands same stands }

-- The result of preparing a closing is the result of the closing.
pub answers-close : (closing : Result ClosedRound CloseFault) (result : Result PreparedClosing CloseFault)
    → Answers closing result → AnswersClose closing result
answers-close closing (Ok prepared) is = rw is refl
answers-close closing (Err fault) is = is

-- A closing fits the house that prepared it.
pub fits-asked : (house : HouseFields) (round : ℕ) (increments : Increments) (ties : List Tie)
    (result : Result PreparedClosing CloseFault) → Answers (closing_in house round increments ties) result
    → IfOk result (λ prepared. (prepared.round ≡ round) × (prepared.increments ≡ increments) × (prepared.ties ≡ ties))
    → IfOk result (λ prepared. FitsClosing prepared house)
fits-asked house round increments ties (Ok prepared) is asked =
    ap (λ (n : ℕ). closing_in house n prepared.increments prepared.ties) asked.0
    ∙ ap (λ (one : Increments). closing_in house round one prepared.ties) asked.1
    ∙ ap (closing_in house round increments) asked.2
    ∙ is
fits-asked house round increments ties (Err fault) is asked = tt

-- The result of preparing a closing of the current round, in a house that has just allocated memory for it.
module _ (old new : HouseFields) (same : IsUnchanged old new) (round : ℕ) (increments : Increments) (ties : List Tie)
    (current : round ≡ (state_in old).round) (result : Result PreparedClosing CloseFault)
    (round_now : OpenRoundFields) (is_now : round_now ≡ record { setup = new.setup; before = open_round_in new })
    (is : Answers (closing_now round_now increments ties) result) where
  pub answers-now : Answers (closing_in new (state_in new).round increments ties) result
  answers-now = subst (λ (one : OpenRoundFields). Answers (closing_now one increments ties) result) is_now is

  answers-new : Answers (closing_in new round increments ties) result
  answers-new =
      subst (λ (n : ℕ). Answers (closing_in new n increments ties) result)
      (ap (λ (now : PublicState). now.round) (standing_unchanged old new same) ∙ sym current) answers-now

  pub answers-old : Answers (closing_in old round increments ties) result
  answers-old = subst (λ (closing : Result ClosedRound CloseFault). Answers closing result)
      (closing_unchanged old new same round increments ties) answers-new

  pub answers-history : ToHistory old (λ auction. Answers (closing_of old.setup auction round increments ties) result)
  answers-history = λ commands stands. subst (λ (closing : Result ClosedRound CloseFault). Answers closing result)
      (sym (closing_same old round increments ties commands stands)) answers-old

  -- After a refused closing, the house stands for one more command.
  refused_by : (result : Result PreparedClosing CloseFault) → Answers (closing_in new round increments ties) result →
      IfErr result (λ reported. reported ≢ close_faults.NoMemory → IsFollowedBy (close round increments ties) old new)
  refused_by (Ok prepared) is = tt
  refused_by (Err fault) is = λ other. record {
    setup = same.setup;
    stands = λ commands stands. close-refused new round increments ties commands
        (stands_unchanged old new commands same stands) fault (is other);
  }

  pub refused-followed : IfErr result (λ reported. reported ≢ close_faults.NoMemory
      → IsFollowedBy (close round increments ties) old new)
  refused-followed = refused_by result answers-new

-- A closing that is late or for another round is refused.
refused_round : (ended current within : Bool) (number : ℕ) (tied : Option TieFault) (limit : Option ℕ)
    (made : ClosedRound) (fault : CloseFault)
    → first_fault ((close_faults.Ended, not ended) ∷ (close_faults.WrongRound number, current) ∷ []) ≡ Some fault
    → unless (first_fault (checks ended current within number tied limit)) made ≡ Err fault
refused_round true current within number tied limit made fault e =
    ap (λ (first : Option CloseFault). unless first made) e
refused_round false false within number tied limit made fault e =
    ap (λ (first : Option CloseFault). unless first made) e
refused_round false true within number tied limit made fault e = absurd (none-some _ e)

no_tie : (ended current : Bool) (number : ℕ) (tie : TieFault)
    → first_fault ((close_faults.Ended, not ended) ∷ (close_faults.WrongRound number, current) ∷ [])
    ≡ Some (close_faults.Tie tie) → ⊥
no_tie true current number tie e = let bad : Some close_faults.Ended ≡ Some (close_faults.Tie tie) = e in cc
no_tie false false number tie e =
    let bad : Some (close_faults.WrongRound number) ≡ Some (close_faults.Tie tie) = e in cc
no_tie false true number tie e = none-some _ e

module _ (old new : HouseFields) (same : IsUnchanged old new) (round : ℕ) (increments : Increments) (ties : List Tie)
    (fault : CloseFault) (is : IsFirstFault close_faults.NoMemory
    (round_fault close_faults.Ended close_faults.WrongRound (state_in old) round) fault) where
  pub round-refused : IsRefusal close_faults.NoMemory (closing_in old round increments ties) fault
  round-refused other =
      let now = open_round_in old in
      let products = old.setup.products in
      let result = round_result products now ties in
      refused_round (state_in old).ended (round == (state_in old).round) (are_increments (length products) increments)
      (state_in old).round (tie_fault (length now.holdings) (length products) ties)
      (price_limit_fault products result.grid result.posted increments)
      (closed_round (public_setup old.setup) now increments result) fault (is other)

  pub round-refused-history : ToHistory old
      (λ auction. IsRefusal close_faults.NoMemory (closing_of old.setup auction round increments ties) fault)
  round-refused-history =
      λ commands stands other. closing_same old round increments ties commands stands ∙ round-refused other

  pub round-refused-followed : fault ≢ close_faults.NoMemory → IsFollowedBy (close round increments ties) old new
  round-refused-followed other = record {
    setup = same.setup;
    stands = λ commands stands. close-refused new round increments ties commands
        (stands_unchanged old new commands same stands) fault
        (closing_unchanged old new same round increments ties ∙ round-refused other);
  }

  pub round-refused-memory : (tie : TieFault) → fault ≢ close_faults.Tie tie
  round-refused-memory tie e = no_tie (state_in old).ended (round == (state_in old).round) (state_in old).round tie
      (is (λ none. let bad : close_faults.Tie tie ≡ close_faults.NoMemory = sym e ∙ none in cc) ∙ ap Some e)

-- A closing that is prepared and then committed.
module _ (old mid new : HouseFields) (round : ℕ) (increments : Increments) (ties : List Tie)
    (prepared : PreparedClosing)
    (asked : (prepared.round ≡ round) × (prepared.increments ≡ increments) × (prepared.ties ≡ ties)) where
  asked_closing : FitsClosing prepared mid → IsUnchanged old mid
      → closing_in old round increments ties ≡ Ok prepared.closed
  asked_closing fits same =
      sym (closing_unchanged old mid same round increments ties)
      ∙ ap (λ (n : ℕ). closing_in mid n increments ties) (sym asked.0)
      ∙ ap (λ (one : Increments). closing_in mid prepared.round one ties) (sym asked.1)
      ∙ ap (closing_in mid prepared.round prepared.increments) (sym asked.2)
      ∙ fits

  pub close-done : FitsClosing prepared mid → IsUnchanged old mid → HasClosed prepared.closed mid new →
      IfOk (closing_in old round increments ties) (λ closed. HasClosed closed old new)
  close-done fits same done = subst (λ (answer : Result ClosedRound CloseFault). IfOk answer
      (λ closed. HasClosed closed old new)) (sym (asked_closing fits same)) (record {
        setup = done.setup ∙ same.setup;
        closed = done.closed ∙ ap (λ (closed : List ClosedRound). prepared.closed ∷ closed) same.closed;
        sheets = done.sheets ∙ ap (λ (setup : SetupFields). for_each_bidder setup (λ bidder. None)) same.setup;
      })

  pub close-done-followed : StandsForTheSame old mid → IsFollowedBy (close prepared.round prepared.increments
      prepared.ties) mid new → IsFollowedBy (close round increments ties) old new
  close-done-followed still followed = record {
    setup = followed.setup ∙ still.setup;
    stands = λ commands stands.
        subst (λ (list : List Tie). StandsFor (close round increments list ∷ commands) new) asked.2
        (subst (λ (one : Increments). StandsFor (close round one prepared.ties ∷ commands) new) asked.1
        (subst (λ (n : ℕ). StandsFor (close n prepared.increments prepared.ties ∷ commands) new) asked.0
        (followed.stands commands (still.stands commands stands))));
  }
