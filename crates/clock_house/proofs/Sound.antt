-- Proves that after every list of commands the auction is sound. By induction over the commands: each closing leaves
-- bidders within their limits, prices in order, and full products full.
use Rattle.std.proofs.Common.{◌≡◌, ℕ, zero, suc, ◌+◌, ◌<◌, ◌≤◌, List, [], ◌∷◌, false, cond, refl, ap, sym, subst, ◌∙◌}
use Rattle.std.proofs.Common.{arith, get_or, length, All}
use Rattle.std.specs.Prelude.{Option, Some, None, Result, Ok, Err, map, unwrap_or}
use Rattle.std.specs.List.{range_with_len, AllPairs}
use Rattle.std.proofs.lemmas.List.{get_or-map, length-map}
use Rattle.std.proofs.lemmas.List.FromFn.{length-map-range_with_len, get_or-map-range_with_len}
use Rattle.std.proofs.lemmas.List.Elements.{All-map}
use Rattle.clock_terms.specs.declared.setup.Product.{Product}
use Rattle.clock_terms.specs.declared.prices.PricePair.{PricePair}
use Rattle.clock_terms.specs.declared.increments.Increments.{Increments}
use Rattle.clock_terms.specs.Limits.{SetupFields, IsSetup, public_setup}
use Rattle.clock_terms.proofs.IncrementLaws.{increments_of_test}
use Rattle.clock_terms.specs.Demands.{row_of, total_of}
use Rattle.clock_terms.specs.Eligibility.{activity}
use Rattle.clock_terms.proofs.DemandLaws.{activity_zeros, zeros_row}
use Rattle.clock_bids.specs.declared.sheet.Bid.{Bid}
use Rattle.clock_bids.specs.Sheet.{IsGoodSheet}
use Rattle.clock_bids.proofs.Good.{empty_sheet_good}
use Rattle.clock_order.specs.declared.ties.Tie.{Tie}
use Rattle.clock_processor.specs.Board.{IsWithinEligibility}
use Rattle.clock_posting.specs.Posting.{has_ended, next_pair}
use Rattle.clock_closing.specs.declared.closed_round.Slip.{Slip}
use Rattle.clock_closing.specs.declared.fault.CloseFault.{CloseFault}
use Rattle.clock_house.specs.Command.{Command, put, close, other}
use Rattle.clock_house.specs.PublicState.{PublicState, Holding, first_holding, holding_after}
use Rattle.clock_closing.specs.OpenRound.{OpenRound, holding_at, bids_at, bidder_numbers}
use Rattle.clock_closing.specs.inside.OpenRound.{eligibilities_of}
use Rattle.clock_closing.specs.Closing.{RoundResult, round_result, closed_round, slip_after}
use Rattle.clock_house.specs.History.{ClosedRound, Auction, public_state, holding, bidder_at, slip_of}
use Rattle.clock_house.specs.inside.OpenRounds.{no_slip, open_round, grid_after}
use Rattle.clock_house.specs.History.{sheet_in_force, closing_of, after_closing, history}
use Rattle.clock_house.specs.Laws.{IsWithinLimits, HasSoundPrices, AreNumbered, StaysSupplied, IsSound, IsOpen}
use Rattle.clock_closing.proofs.Closings.{IsClosing, closing_passed}
use Rattle.clock_house.proofs.Numbers.{numbered, round-closed, first_prices}
use Rattle.clock_house.proofs.Sheets.{first_accepted_good}
use Rattle.std.proofs.lemmas.Simd.{map-map}
use Rattle.clock_closing.proofs.Sums.{map-get_or}
use Rattle.clock_closing.proofs.Eligible.{next_eligibility_within}
use Rattle.clock_house.proofs.Bounds.{round_bounded}
use Rattle.clock_closing.proofs.RoundResults.{result_within, result_posted, result_risen, result_supplied, priced_next}

-- All pairs of a list: the first element with each later one, and all pairs of the later ones.
AllPairs-cons : {A : Type 0} (R : A → A → Type 0) (x : A) (xs : List A) → All (R x) xs → AllPairs R xs
    → AllPairs R (x ∷ xs)
AllPairs-cons R x xs first rest zero zero d before within = absurd (omega (arith, before))
AllPairs-cons R x xs first rest zero (suc j) d before within = first j d (omega (arith, within))
AllPairs-cons R x xs first rest (suc i) zero d before within = absurd (omega (arith, before))
AllPairs-cons R x xs first rest (suc i) (suc j) d before within =
    rest i j d (omega (arith, before)) (omega (arith, within))

-- If the newest round leaves full what the round before did, it leaves full what any earlier round did.
supplied_all : (products : List Product) (done : ClosedRound) (closed : List ClosedRound)
    → AllPairs (StaysSupplied products) closed → ((last : ClosedRound) (rounds : List ClosedRound)
    → closed ≡ last ∷ rounds → StaysSupplied products done last) → All (StaysSupplied products done) closed
supplied_all products done [] pairs next k d lt = absurd (omega (arith, lt))
supplied_all products done (last ∷ rounds) pairs next zero d lt = next last rounds refl
supplied_all products done (last ∷ rounds) pairs next (suc k) d lt =
    λ product sold. next last rounds refl product (pairs 0 (suc k) d (omega arith) lt product sold)

module _ (setup : SetupFields) (limits : IsSetup setup) where
  -- Before the first round, each bidder is within its limits.
  pub first_held : (bidder : ℕ) → bidder < length setup.bidders
      → IsWithinLimits setup.products (first_holding setup.products (bidder_at setup bidder))
  first_held bidder lt = record {
    row = zeros_row setup.products;
    within = omega (arith, activity_zeros setup.products (length setup.products));
    most = (limits.bidders bidder (record { name = []; token = []; eligibility = 0 }) lt).eligibility;
  }

  first_priced : HasSoundPrices setup.products (public_state setup.products [])
  first_priced =
      let opening = λ (product : Product). let pair : PricePair =
      record { start = product.opening; clock = product.opening } in pair in
      record {
        numbered = omega arith;
        pairs = length-map setup.products _;
        ordered =
            All-map (λ (pair : PricePair). pair.start ≤ pair.clock) opening setup.products (λ k d lt. omega arith);
        positive = All-map (λ (pair : PricePair). 1 ≤ pair.start) opening setup.products
            (λ k d lt. (limits.products k d lt).opening.0);
        highest = All-map (λ (pair : PricePair). pair.start ≤ 1000000000000) opening setup.products
            (λ k d lt. (limits.products k d lt).opening.1);
        rising = λ later. absurd (omega (arith, later));
        bounded = λ later. absurd (omega (arith, later));
      }

  module _ (auction : Auction) (sound : IsSound setup auction) where
    abbrev now : OpenRound
    now = open_round setup auction

    many : length (open_round setup auction).holdings ≡ length setup.bidders
    many = length-map-range_with_len (holding setup auction.closed) 0 (length setup.bidders)

    held_at : (bidder : ℕ) → bidder < length setup.bidders
        → holding_at (open_round setup auction).holdings bidder ≡ holding setup auction.closed bidder
    held_at bidder lt = get_or-map-range_with_len (holding setup auction.closed) 0 (length setup.bidders) bidder bidder
        (record { eligibility = 0; demands = [] }) lt (omega arith)

    bids_of : (bidder : ℕ) → bidder < length setup.bidders →
        bids_at (open_round setup auction).sheets bidder ≡ unwrap_or (sheet_in_force setup auction bidder) []
    bids_of bidder lt = ap (λ sheet. unwrap_or sheet []) (get_or-map-range_with_len (sheet_in_force setup auction) 0
        (length setup.bidders) bidder bidder None lt (omega arith))

    -- Each bidder's sheet in force, or none, passes the checks.
    good_or_none : (bidder : ℕ) (sheet : Option (List Bid)) → sheet_in_force setup auction bidder ≡ sheet
        → IsGoodSheet (public_setup setup) (public_state setup.products auction.closed).round
        (public_state setup.products auction.closed).prices (holding setup auction.closed bidder) (unwrap_or sheet [])
    good_or_none bidder None e = empty_sheet_good (public_setup setup) (public_state setup.products
        auction.closed).round (public_state setup.products auction.closed).prices (holding setup auction.closed bidder)
    good_or_none bidder (Some bids) e = first_accepted_good (public_setup setup)
        (public_state setup.products auction.closed) (holding setup auction.closed bidder) bidder auction.since bids e

    -- If the auction has not ended, the input of a closing is sound.
    pub open_sound : (public_state setup.products auction.closed).ended ≡ false
        → IsOpen (public_setup setup) (open_round setup auction)
    open_sound going = record {
      limits = limits.products;
      few_products = limits.product_count.1;
      few_bidders = omega (arith, many, limits.bidder_count.1);
      within = λ bidder lt. subst (IsWithinLimits setup.products) (sym (held_at bidder (omega (arith, lt, many))))
          (sound.within bidder (omega (arith, lt, many)));
      priced = sound.priced going;
      good = λ bidder lt. subst (λ (held : Holding). IsGoodSheet (public_setup setup)
          (public_state setup.products auction.closed).round (public_state setup.products auction.closed).prices held
          (bids_at (open_round setup auction).sheets bidder)) (sym (held_at bidder (omega (arith, lt, many))))
          (subst (IsGoodSheet (public_setup setup) (public_state setup.products auction.closed).round
          (public_state setup.products auction.closed).prices (holding setup auction.closed bidder)) (sym (bids_of
          bidder (omega (arith, lt, many)))) (good_or_none bidder (sheet_in_force setup auction bidder) refl));
    }

    -- Before the end, the current round is one more than the number of closed rounds.
    pub round_is : (public_state setup.products auction.closed).ended ≡ false
        → (public_state setup.products auction.closed).round ≡ suc (length auction.closed)
    round_is going = round-closed setup auction.closed sound.numbered going

    -- The demands before a later round are those in the bidder results of the round before.
    before_later : (closed : List ClosedRound) (last : ClosedRound) (rounds : List ClosedRound) → closed ≡ last ∷ rounds
        → length last.slips ≡ length setup.bidders → map (λ (held : Holding). held.demands)
        (map (holding setup closed) (range_with_len 0 (length setup.bidders))) ≡ grid_after last
    before_later closed last rounds e slips = ap (λ (list : List ClosedRound). map (λ (held : Holding). held.demands)
        (map (holding setup list) (range_with_len 0 (length setup.bidders)))) e ∙ map-map (λ (held : Holding).
        held.demands) (holding setup (last ∷ rounds)) (range_with_len 0 (length setup.bidders)) ∙ sym (map-map
        (λ (slip : Slip). slip.demands) (λ b. get_or last.slips b no_slip) (range_with_len 0 (length setup.bidders)))
        ∙ ap (map (λ (slip : Slip). slip.demands)) (map-get_or last.slips (length setup.bidders) no_slip slips)

    last_slips : (last : ClosedRound) (rounds : List ClosedRound) → auction.closed ≡ last ∷ rounds
        → length last.slips ≡ length setup.bidders
    last_slips last rounds e =
        let all : AreNumbered (length setup.bidders) (length setup.products) (last ∷ rounds) =
        subst (AreNumbered (length setup.bidders) (length setup.products)) e sound.numbered in all.1

    module _ (round : ℕ) (increments : Increments) (ties : List Tie) (done : ClosedRound)
        (is : IsClosing (public_setup setup) (open_round setup auction) round increments ties done) where
      abbrev result : RoundResult
      result = round_result setup.products (open_round setup auction) ties

      here : IsOpen (public_setup setup) (open_round setup auction)
      here = open_sound is.going

      some_round : 1 ≤ (public_state setup.products auction.closed).round
      some_round = omega (arith, round_is is.going)

      within : IsWithinEligibility setup.products (eligibilities_of (open_round setup auction))
          (round_result setup.products (open_round setup auction) ties).grid
      within = result_within (public_setup setup) (open_round setup auction) here ties some_round

      rows_many : length (round_result setup.products (open_round setup auction) ties).grid ≡ length setup.bidders
      rows_many = within.bidders ∙ length-map (open_round setup auction).holdings _ ∙ many

      -- The results of a bidder.
      slip_is : (bidder : ℕ) → bidder < length setup.bidders → slip_of bidder done ≡ slip_after (public_setup setup)
          (public_state setup.products auction.closed).round (holding setup auction.closed bidder).eligibility
          (row_of (round_result setup.products (open_round setup auction) ties).grid bidder)
      slip_is bidder lt = ap (slip_of bidder) is.made ∙ get_or-map-range_with_len (λ b. slip_after (public_setup setup)
          (public_state setup.products auction.closed).round (holding_at (open_round setup auction).holdings
          b).eligibility (row_of (round_result setup.products (open_round setup auction) ties).grid b)) 0
          (length (open_round setup auction).holdings) bidder bidder no_slip (omega (arith, lt, many)) (omega arith)
          ∙ ap (λ (held : Holding). slip_after (public_setup setup)
          (public_state setup.products auction.closed).round held.eligibility
          (row_of (round_result setup.products (open_round setup auction) ties).grid bidder)) (held_at bidder lt)

      -- Each bidder stays within its limits.
      pub held_next : (bidder : ℕ) → bidder < length setup.bidders
          → IsWithinLimits setup.products (holding_after (slip_of bidder done))
      held_next bidder lt =
          let row : List ℕ = row_of (round_result setup.products (open_round setup auction) ties).grid bidder in
          let before : IsWithinLimits setup.products (holding setup auction.closed bidder) = sound.within bidder lt in
          let used : activity setup.products row ≤ (holding setup auction.closed bidder).eligibility =
          omega (
            arith,
            within.within bidder (omega (arith, lt, rows_many)),
            get_or-map (λ (held : Holding). held.eligibility) (open_round setup auction).holdings bidder
                (record { eligibility = 0; demands = [] }) 0 (omega (arith, lt, many)),
            ap (λ (held : Holding). held.eligibility) (held_at bidder lt),
          ) in
          let kept = next_eligibility_within (holding setup auction.closed bidder).eligibility
          (activity setup.products row) setup.requirement used
          (omega (arith, limits.requirement.0)) limits.requirement.1 in
          subst (λ (slip : Slip). IsWithinLimits setup.products (holding_after slip)) (sym (slip_is bidder lt))
          (record {
            row = within.rows bidder [] (omega (arith, lt, rows_many));
            within = kept.0;
            most = omega (arith, kept.1, before.most);
          })

      -- The prices stay in order.
      pub priced_after : done.sheet.ended ≡ false
          → HasSoundPrices setup.products (public_state setup.products (done ∷ auction.closed))
      priced_after going =
          let result : RoundResult = round_result setup.products (open_round setup auction) ties in
          let before : PublicState = public_state setup.products auction.closed in
          let made : closed_round (public_setup setup) (open_round setup auction) increments
          (round_result setup.products (open_round setup auction) ties) ≡ done = sym is.made in
          let goes_on : has_ended setup.products (round_result setup.products (open_round setup auction) ties).grid
          ≡ false = ap (λ (one : ClosedRound). one.sheet.ended) made ∙ going in
          let number : (public_state setup.products (done ∷ auction.closed)).round
          ≡ (public_state setup.products auction.closed).round + 1 = ap (λ ended. cond ended done.sheet.round
          (done.sheet.round + 1)) going ∙ ap (λ (one : ClosedRound). one.sheet.round + 1) is.made in
          priced_next setup.products (public_state setup.products auction.closed) (sound.priced is.going)
          (round_result setup.products (open_round setup auction) ties).grid
          (round_result setup.products (open_round setup auction) ties).posted increments
          (result_posted (public_setup setup) (open_round setup auction) here ties some_round increments
          (first_prices setup auction.closed (round_is is.going))) limits.products (increments_of_test
          (length setup.products) increments is.within) goes_on is.possible (λ later. result_risen (public_setup setup)
          (open_round setup auction) here ties some_round increments later goes_on) (public_state setup.products
          (done ∷ auction.closed)) number (ap (λ (one : ClosedRound). map next_pair one.sheet.lines) is.made) some_round

      -- The demands in the bidder results are those of bid processing.
      grid_is : grid_after done ≡ (round_result setup.products (open_round setup auction) ties).grid
      grid_is = ap grid_after is.made ∙ map-map (λ (slip : Slip). slip.demands) (λ b. slip_after (public_setup setup)
          (public_state setup.products auction.closed).round (holding_at (open_round setup auction).holdings
          b).eligibility (row_of (round_result setup.products (open_round setup auction) ties).grid b))
          (bidder_numbers (open_round setup auction)) ∙ map-get_or (round_result setup.products
          (open_round setup auction) ties).grid (length (open_round setup auction).holdings) [] (rows_many ∙ sym many)

      -- In a later round, a product that was full before stays full.
      supplied_next : (last : ClosedRound) (rounds : List ClosedRound) → auction.closed ≡ last ∷ rounds
          → StaysSupplied setup.products done last
      supplied_next last rounds e product sold =
          let later : 2 ≤ (public_state setup.products auction.closed).round =
          omega (arith, round_is is.going, ap length e) in
          let kept = result_supplied (public_setup setup) (open_round setup auction) here ties some_round later product
          (omega (
            arith,
            sold,
            ap (λ (grid : List (List ℕ)). total_of grid product)
                (sym (before_later auction.closed last rounds e (last_slips last rounds e))),
          )) in
          omega (arith, kept, ap (λ (grid : List (List ℕ)). total_of grid product) grid_is)

      -- The auction after the closing is sound.
      pub sound_next : AreNumbered (length setup.bidders) (length setup.products) (done ∷ auction.closed) →
          IsSound setup (record { closed = done ∷ auction.closed; since = [] })
      sound_next all = record {
        numbered = all;
        within = held_next;
        priced = priced_after;
        supplied = AllPairs-cons (StaysSupplied setup.products) done auction.closed
            (supplied_all setup.products done auction.closed sound.supplied supplied_next) sound.supplied;
        count = omega (
          arith,
          round_is is.going,
          round_bounded setup.products (public_state setup.products auction.closed) limits.product_count.1
              (sound.priced is.going),
        );
      }

  -- An auction without closed rounds is sound.
  first_sound : IsSound setup (record { closed = []; since = [] })
  first_sound = record {
    numbered = tt;
    within = first_held;
    priced = λ going. first_priced;
    supplied = λ i j d before within. absurd (omega (arith, within));
    count = omega arith;
  }

  -- A command that closes no round leaves the auction sound.
  same_closed : (old new : Auction) → new.closed ≡ old.closed → IsSound setup old → IsSound setup new
  same_closed old new same sound =
      let P = λ (closed : List ClosedRound). IsSound setup (record { closed = closed; since = new.since }) in
      subst P (sym same) (record {
        numbered = sound.numbered;
        within = sound.within;
        priced = sound.priced;
        supplied = sound.supplied;
        count = sound.count;
      })

  after_closing_sound : (auction : Auction) (round : ℕ) (increments : Increments) (ties : List Tie)
      (answer : Result ClosedRound CloseFault) → closing_of setup auction round increments ties ≡ answer → AreNumbered
      (length setup.bidders) (length setup.products) (after_closing auction (close round increments ties) answer).closed
      → IsSound setup auction → IsSound setup (after_closing auction (close round increments ties) answer)
  after_closing_sound auction round increments ties (Ok done) e all sound = sound_next auction sound round increments
      ties done (closing_passed (public_setup setup) (open_round setup auction) round increments ties done e) all
  after_closing_sound auction round increments ties (Err fault) e all sound =
      same_closed auction (after_closing auction (close round increments ties) (Err fault)) refl sound

  -- The auction is sound after every list of commands.
  pub sound : (commands : List Command) → IsSound setup (history setup commands)
  sound [] = first_sound
  sound (put author round bids ∷ earlier) =
      same_closed (history setup earlier) (history setup (put author round bids ∷ earlier)) refl (sound earlier)
  sound (close round increments ties ∷ earlier) = after_closing_sound (history setup earlier) round increments ties
      (closing_of setup (history setup earlier) round increments ties) refl
      (numbered setup (close round increments ties ∷ earlier)) (sound earlier)
  sound (other ∷ earlier) = same_closed (history setup earlier) (history setup (other ∷ earlier)) refl (sound earlier)
