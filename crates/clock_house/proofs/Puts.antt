-- Proves what submitting a sheet does to the commands that a house stands for: the sheet is in force, or nothing
-- changes.
use Rattle.std.proofs.Common.{◌≡◌, ℕ, ◌<◌, inl, inr, List, [], ◌∷◌, Bool, true, false, ◌&&◌, ◌==◌, not, refl}
use Rattle.std.proofs.Common.{ap, sym, subst, ◌∙◌, arith, get_or, set, length, eq-eqb, ne_eqb}
use Rattle.std.specs.Prelude.{◌≢◌, Option, Some, None, Result, Ok, Err, IfOk, IfErr, is_none}
use Rattle.std.proofs.lemmas.Bool.{cases_eq}
use Rattle.std.proofs.lemmas.Option.{none-some}
use Rattle.std.proofs.lemmas.List.{get_or-set_same, get_or-set_other, length-set}
use Rattle.std.proofs.lemmas.List.FromFn.{fill_by_all, length-map-range_with_len, get_or-map-range_with_len}
use Rattle.clock_terms.specs.declared.prices.PricePair.{PricePair}
use Rattle.clock_terms.specs.Faults.{IsFirstFault, first_fault}
use Rattle.clock_terms.specs.Limits.{SetupFields, public_setup}
use Rattle.clock_bids.specs.Sheet.{sheet_fault}
use Rattle.clock_closing.specs.Faults.{fault_check}
use Rattle.clock_bids.specs.declared.sheet.Bid.{Bid}
use Rattle.clock_bids.specs.declared.sheet.BidFault.{BidFault}
use Rattle.clock_bids.specs.declared.sheet.BidFault.TheVariants as bid_faults
use Rattle.clock_house.specs.declared.fault.PutFault.{PutFault}
use Rattle.clock_house.specs.declared.fault.PutFault.TheVariants as put_faults
use Rattle.clock_house.specs.Command.{Command, put}
use Rattle.clock_house.specs.PublicState.{put_fault}
use Rattle.clock_house.specs.History.{ClosedRound, history, public_state, holding, sheet_in_force}
use Rattle.clock_house.specs.House.{HouseFields, StandsFor, IsFollowedBy, AnswersPut, state_in, holding_in}
use Rattle.clock_house.specs.House.{put_fault_in, with_sheet}
use Rattle.clock_house.specs.Prepared.{PreparedSheet, FitsSheet}
use Rattle.clock_house.specs.ReportedFaults.{fault_from_bid}
use Rattle.clock_house.specs.inside.Rounds.{IsCurrent, round_fault}
use Rattle.clock_house.proofs.Rounds.{first_of_more}
use Rattle.clock_house.proofs.Steps.{in_force-accepted, in_force-skipped}

-- A prepared sheet that a house accepts, by equal parts of both.
pub fits_inside : (prepared inside : PreparedSheet) (house held : HouseFields) → inside ≡ prepared → held ≡ house
    → FitsSheet prepared house → FitsSheet inside held
fits_inside prepared inside house held p h fits = subst (λ (of : HouseFields). FitsSheet inside of) (sym h)
    (subst (λ (sheet : PreparedSheet). FitsSheet sheet house) (sym p) fits)

skip_by : (own good : Bool) → good ≡ false → own && good ≡ false
skip_by true good e = e
skip_by false good e = refl

other_by : (own good : Bool) → own ≡ false → own && good ≡ false
other_by true good e = let bad : true ≡ false = e in cc
other_by false good e = refl

module _ (house : HouseFields) (bidder round : ℕ) (bids : List Bid) (commands : List Command)
    (stands : StandsFor commands house) where
  -- The fault of the sheet by the history of the commands is its fault by the house.
  fault_same : put_fault (public_setup house.setup)
      (public_state house.setup.products (history house.setup commands).closed) (holding house.setup
      (history house.setup commands).closed bidder) round bids ≡ put_fault_in house bidder round bids
  fault_same =
      ap (λ (closed : List ClosedRound). put_fault (public_setup house.setup) (public_state house.setup.products closed)
      (holding house.setup closed bidder) round bids) (sym stands.closed)

  -- The sheet in force that the house has for a bidder is the one by the commands.
  pub sheet_at : (who : ℕ) → who < length house.setup.bidders
      → get_or house.sheets who None ≡ sheet_in_force house.setup (history house.setup commands) who
  sheet_at who lt = ap (λ (sheets : List (Option (List Bid))). get_or sheets who None) stands.sheets
      ∙ get_or-map-range_with_len (sheet_in_force house.setup (history house.setup commands)) 0
      (length house.setup.bidders) who who None lt (omega arith)

  many : length house.sheets ≡ length house.setup.bidders
  many = ap length stands.sheets ∙ length-map-range_with_len
      (sheet_in_force house.setup (history house.setup commands)) 0 (length house.setup.bidders)

  -- A sheet that is refused is not an accepted sheet of any bidder.
  refused : (fault : PutFault) → put_fault_in house bidder round bids ≡ Some fault → (who : ℕ) → (bidder == who)
      && is_none (put_fault (public_setup house.setup) (public_state house.setup.products (history house.setup
      commands).closed) (holding house.setup (history house.setup commands).closed who) round bids) ≡ false
  refused fault e who =
      let judged = λ (one : ℕ). put_fault (public_setup house.setup) (public_state house.setup.products (history
      house.setup commands).closed) (holding house.setup (history house.setup commands).closed one) round bids in
      elim (cases_eq bidder who) as (λ _. (bidder == who) && is_none (judged who) ≡ false) [
        | inl same ↦ skip_by (bidder == who) (is_none (judged who)) (ap is_none (ap judged (sym same) ∙ fault_same ∙ e))
        | inr differ ↦ other_by (bidder == who) (is_none (judged who)) (ne_eqb bidder who differ)
      ]

  -- A refused sheet changes nothing.
  pub put-refused : (fault : PutFault) → put_fault_in house bidder round bids ≡ Some fault
      → StandsFor (put bidder round bids ∷ commands) house
  put-refused fault e = record {
    closed = stands.closed;
    sheets = fill_by_all (sheet_in_force house.setup (history house.setup (put bidder round bids ∷ commands)))
        house.sheets (length house.setup.bidders) None many (λ who lt. sheet_at who lt ∙ sym (in_force-skipped
        house.setup (history house.setup commands) bidder round bids who (refused fault e who)));
  }

  accepted_at : bidder < length house.setup.bidders → put_fault_in house bidder round bids ≡ None → (who : ℕ)
      → who < length house.setup.bidders → get_or (set house.sheets bidder (Some bids)) who None
      ≡ sheet_in_force house.setup (history house.setup (put bidder round bids ∷ commands)) who
  accepted_at lt e who who_in =
      elim (cases_eq who bidder) as (λ _. get_or (set house.sheets bidder (Some bids)) who None
      ≡ sheet_in_force house.setup (history house.setup (put bidder round bids ∷ commands)) who) [
        | inl same ↦ subst (λ (one : ℕ). get_or (set house.sheets bidder (Some bids)) one None ≡ sheet_in_force
            house.setup (history house.setup (put bidder round bids ∷ commands)) one) (sym same) (get_or-set_same
            house.sheets bidder (Some bids) None (omega (arith, lt, many)) ∙ sym (in_force-accepted house.setup
            (history house.setup commands) bidder round bids (eq-eqb bidder bidder refl) (ap is_none (fault_same ∙ e))))
        | inr differ ↦ get_or-set_other house.sheets bidder who (Some bids) None differ ∙ sheet_at who who_in
            ∙ sym (in_force-skipped house.setup (history house.setup commands) bidder round bids who
            (other_by (bidder == who) (is_none (put_fault (public_setup house.setup)
            (public_state house.setup.products (history house.setup commands).closed) (holding house.setup
            (history house.setup commands).closed who) round bids)) (ne_eqb bidder who (λ e. differ (sym e)))))
      ]

  -- An accepted sheet is in force, and the other bidders' sheets are unchanged.
  pub put-accepted : bidder < length house.setup.bidders → put_fault_in house bidder round bids ≡ None →
      StandsFor (put bidder round bids ∷ commands) (with_sheet house bidder bids)
  put-accepted lt e = record {
    closed = stands.closed;
    sheets = fill_by_all (sheet_in_force house.setup (history house.setup (put bidder round bids ∷ commands)))
        (set house.sheets bidder (Some bids)) (length house.setup.bidders) None
        (length-set house.sheets bidder (Some bids) ∙ many) (accepted_at lt e);
  }

-- Any other fault of the bids is reported as it is.
reported_as : (fault : BidFault) → fault ≢ bid_faults.NoMemory → fault_from_bid fault ≡ put_faults.Bid fault
reported_as bid_faults.NoMemory other = absurd (other refl)
reported_as bid_faults.TooMany other = refl
reported_as (bid_faults.UnknownProduct place) other = refl
reported_as (bid_faults.PriceRange place) other = refl
reported_as (bid_faults.OverCap place) other = refl
reported_as (bid_faults.PriceOrder place) other = refl
reported_as (bid_faults.MixedDirection place) other = refl
reported_as (bid_faults.KeepPrice place) other = refl
reported_as bid_faults.OverActivity other = refl

-- So none is reported for bids that ran out of memory.
pub put-memory : (fault : BidFault) (reported : PutFault) → reported ≡ fault_from_bid fault
    → reported ≢ put_faults.Bid bid_faults.NoMemory
put-memory fault reported is e =
    let other : fault ≢ bid_faults.NoMemory = λ none. (let bad : put_faults.NoMemory
    ≡ put_faults.Bid bid_faults.NoMemory = sym (is ∙ ap fault_from_bid none) ∙ e in cc) in
    other (let same : put_faults.Bid fault ≡ put_faults.Bid bid_faults.NoMemory =
    sym (is ∙ reported_as fault other) ∙ e in cc)

no_bid : (ended current : Bool) (number : ℕ) (fault : BidFault)
    → first_fault ((put_faults.Ended, not ended) ∷ (put_faults.WrongRound number, current) ∷ [])
    ≡ Some (put_faults.Bid fault) → ⊥
no_bid true current number fault e = let bad : Some put_faults.Ended ≡ Some (put_faults.Bid fault) = e in cc
no_bid false false number fault e =
    let bad : Some (put_faults.WrongRound number) ≡ Some (put_faults.Bid fault) = e in cc
no_bid false true number fault e = none-some _ e

-- The fault of a round is none of bids.
pub round-no_bid : (house : HouseFields) (round : ℕ) (found : PutFault) → round_fault put_faults.Ended
    put_faults.WrongRound (state_in house) round ≡ Some found → (fault : BidFault) → found ≢ put_faults.Bid fault
round-no_bid house round found is fault e = no_bid (state_in house).ended (round == (state_in house).round)
    (state_in house).round fault (is ∙ ap Some e)

-- The first fault of a sheet: that of its round, or that of its bids.
module _ (house : HouseFields) (bidder round : ℕ) (bids : List Bid) where
  abbrev by_tests : Bool → Bool → Option BidFault → Option PutFault
  by_tests ended current fault = first_fault (
      (put_faults.Ended, not ended)
      ∷ (put_faults.WrongRound (state_in house).round, current)
      ∷ fault_check put_faults.Bid fault)

  abbrev bids_fault : Option BidFault
  bids_fault = sheet_fault (public_setup house.setup) (state_in house).round (state_in house).prices
      (holding_in house bidder) bids

  pub put-round : (found : PutFault) → round_fault put_faults.Ended put_faults.WrongRound (state_in house) round
      ≡ Some found → put_fault_in house bidder round bids ≡ Some found
  put-round found is = first_of_more put_faults.Ended put_faults.WrongRound (state_in house) round found
      (fault_check put_faults.Bid bids_fault) is

  module _ (current : IsCurrent (state_in house) round) (setup : SetupFields) (number : ℕ) (prices : List PricePair)
      (eligibility : ℕ) (demands : List ℕ) (setup_is : setup ≡ house.setup)
      (number_is : number ≡ (state_in house).round) (prices_are : prices ≡ (state_in house).prices)
      (eligibility_is : eligibility ≡ (holding_in house bidder).eligibility)
      (demands_are : demands ≡ (holding_in house bidder).demands) where
    abbrev judged : SetupFields → ℕ → List PricePair → ℕ → List ℕ → Option BidFault
    judged one n list units row =
        sheet_fault (public_setup one) n list (record { eligibility = units; demands = row }) bids

    same : judged setup number prices eligibility demands ≡ bids_fault
    same =
        ap (λ (one : SetupFields). judged one number prices eligibility demands) setup_is
        ∙ ap (λ (n : ℕ). judged house.setup n prices eligibility demands) number_is
        ∙ ap (λ (list : List PricePair). judged house.setup (state_in house).round list eligibility demands) prices_are
        ∙ ap (λ (units : ℕ). judged house.setup (state_in house).round (state_in house).prices units demands)
        eligibility_is
        ∙ ap (judged house.setup (state_in house).round (state_in house).prices (holding_in house bidder).eligibility)
        demands_are

    by_bids : (found : Option BidFault) → judged setup number prices eligibility demands ≡ found
        → put_fault_in house bidder round bids ≡ first_fault (fault_check put_faults.Bid found)
    by_bids found is =
        ap (λ (ended : Bool). by_tests ended (round == (state_in house).round) bids_fault) current.going
        ∙ ap (λ (test : Bool). by_tests false test bids_fault) (eq-eqb round (state_in house).round current.number)
        ∙ ap (by_tests false true) (sym same ∙ is)

    pub put-good : judged setup number prices eligibility demands ≡ None → put_fault_in house bidder round bids ≡ None
    put-good good = by_bids None good

    pub put-bad : (found : BidFault) (reported : PutFault) → reported ≡ fault_from_bid found
        → IsFirstFault bid_faults.NoMemory (judged setup number prices eligibility demands) found
        → IsFirstFault put_faults.NoMemory (put_fault_in house bidder round bids) reported
    put-bad found reported reported_is is = λ other.
        (let memory : found ≢ bid_faults.NoMemory = λ none. other (reported_is ∙ ap fault_from_bid none) in
        by_bids (Some found) (is memory) ∙ ap Some (sym (reported_is ∙ reported_as found memory)))

-- The result of a house that checks a sheet.
module _ (house : HouseFields) (bidder round : ℕ) (bids : List Bid) where
  -- The house accepts the sheet that it returns.
  pub fits-judged : (result : Result PreparedSheet PutFault) → bidder < length house.setup.bidders →
      AnswersPut (put_fault_in house bidder round bids) result →
      IfOk result (λ prepared. prepared ≡ record { bidder = bidder; round = round; bids = bids }) →
      IfOk result (λ prepared. FitsSheet prepared house)
  fits-judged (Ok prepared) known is asked =
      subst (λ (one : PreparedSheet). FitsSheet one house) (sym asked) (record { known = known; good = is })
  fits-judged (Err fault) known is asked = tt

  -- After a refused sheet, the house stands for one more command.
  pub judged-followed : (result : Result PreparedSheet PutFault)
      → AnswersPut (put_fault_in house bidder round bids) result
      → IfErr result (λ reported. reported ≢ put_faults.NoMemory → IsFollowedBy (put bidder round bids) house house)
  judged-followed (Ok prepared) is = tt
  judged-followed (Err fault) is = λ other. record {
    setup = refl;
    stands = λ commands stands. put-refused house bidder round bids commands stands fault (is other);
  }
