-- Proves that the requests of an open round in order can be processed, and that demands stay within the limits. From
-- the checks that each sheet in force has passed.
use Rattle.std.proofs.Common.{◌≡◌, ℕ, ◌*◌, ◌/◌, ◌<◌, ◌≤◌, List, [], cond, ap, sym, subst, ◌∙◌, arith, get_or, length}
use Rattle.std.proofs.Common.{All, eq-eqb}
use Rattle.std.specs.Prelude.{flat_map, IsPermutation}
use Rattle.std.specs.List.{AllPairs}
use Rattle.std.proofs.lemmas.List.{get_or-map, length-map, get_or_default}
use Rattle.std.proofs.lemmas.List.FromFn.{length-map-range_with_len, get_or-map-range_with_len}
use Rattle.std.proofs.lemmas.List.Elements.{All-weaker}
use Rattle.clock_terms.specs.Limits.{PublicSetup, IsRow}
use Rattle.clock_terms.specs.Demands.{row_of}
use Rattle.clock_terms.specs.Eligibility.{activity}
use Rattle.clock_terms.specs.declared.change.Change.{Change}
use Rattle.clock_bids.specs.Holding.{activity_limit}
use Rattle.clock_bids.specs.Sheet.{asked_demands}
use Rattle.clock_terms.specs.Requests.{AreChangesOf, AreApart, IsChangeOf}
use Rattle.clock_processor.specs.Board.{IsWithinEligibility, IsBoard, new_board}
use Rattle.clock_processor.specs.Requests.{CanSettle}
use Rattle.clock_processor.proofs.AllBidders.{can_settle_all}
use Rattle.clock_processor.proofs.ProperEnd.{settled_board}
use Rattle.clock_posting.specs.PostedPrice.{IsWithinPrices}
use Rattle.clock_closing.specs.Holdings.{Holding}
use Rattle.clock_closing.specs.OpenRound.{OpenRound, IsOpen, holding_at, bids_at, bidder_numbers}
use Rattle.clock_closing.specs.inside.OpenRound.{eligibilities_of, grid_of}
use Rattle.clock_closing.specs.Closing.{requests_by, asked_grid, settlement}
use Rattle.clock_closing.proofs.Joined.{all_joined, apart_joined}
use Rattle.clock_bids.proofs.Good.{good_sheet_row, good_sheet_activity}
use Rattle.clock_bids.proofs.GoodChanges.{good_sheet_changes}

module _ (setup : PublicSetup) (now : OpenRound) (sound : IsOpen setup now) where
  eligibility_at : (bidder : ℕ) → bidder < length now.holdings
      → get_or (eligibilities_of now) bidder 0 ≡ (holding_at now.holdings bidder).eligibility
  eligibility_at bidder lt = get_or-map (λ (holding : Holding). holding.eligibility) now.holdings bidder
      (record { eligibility = 0; demands = [] }) 0 lt

  demands_at : (bidder : ℕ) → bidder < length now.holdings
      → row_of (grid_of now) bidder ≡ (holding_at now.holdings bidder).demands
  demands_at bidder lt = get_or-map (λ (holding : Holding). holding.demands) now.holdings bidder
      (record { eligibility = 0; demands = [] }) [] lt

  -- In round 1, the activity limit is the eligibility.
  first_limit : (round eligibility : ℕ) → round ≡ 1 → activity_limit setup round eligibility ≡ eligibility
  first_limit round eligibility first =
      ap (λ is. cond is eligibility (eligibility * setup.limit / 100)) (eq-eqb round 1 first)

  -- A grid is within the eligibilities if each of its rows is.
  within_by : (grid : List (List ℕ)) → length grid ≡ length now.holdings
      → ((bidder : ℕ) → bidder < length now.holdings → IsRow setup.products (row_of grid bidder))
      → ((bidder : ℕ) → bidder < length now.holdings → activity setup.products (row_of grid bidder)
      ≤ (holding_at now.holdings bidder).eligibility) → IsWithinEligibility setup.products (eligibilities_of now) grid
  within_by grid many rows within = record {
    bidders = many ∙ sym (length-map now.holdings _);
    rows = λ bidder d lt. subst (IsRow setup.products) (get_or_default grid bidder [] d lt)
        (rows bidder (omega (arith, lt, many)));
    within = λ bidder lt.
        omega (arith, within bidder (omega (arith, lt, many)), eligibility_at bidder (omega (arith, lt, many)));
  }

  -- The demands before the round are within the eligibilities.
  pub before_within : IsWithinEligibility setup.products (eligibilities_of now) (grid_of now)
  before_within = within_by (grid_of now) (length-map now.holdings _)
      (λ bidder lt. subst (IsRow setup.products) (sym (demands_at bidder lt)) (sound.within bidder lt).row)
      (λ bidder lt. subst (λ (row : List ℕ). activity setup.products row ≤ (holding_at now.holdings bidder).eligibility)
      (sym (demands_at bidder lt)) (sound.within bidder lt).within)

  -- A bidder's row of the requested demands of round 1.
  asked_row : (bidder : ℕ) → bidder < length now.holdings → row_of (asked_grid setup.products now) bidder
      ≡ asked_demands (length setup.products) (bids_at now.sheets bidder)
  asked_row bidder lt = get_or-map-range_with_len (λ b. asked_demands (length setup.products) (bids_at now.sheets b)) 0
      (length now.holdings) bidder bidder [] lt (omega arith)

  pub asked_within : now.public_state.round ≡ 1
      → IsWithinEligibility setup.products (eligibilities_of now) (asked_grid setup.products now)
  asked_within first = within_by (asked_grid setup.products now) (length-map-range_with_len _ 0 (length now.holdings))
      (λ bidder lt. subst (IsRow setup.products) (sym (asked_row bidder lt))
      (good_sheet_row setup now.public_state.round now.public_state.prices (holding_at now.holdings bidder)
      (bids_at now.sheets bidder) (sound.good bidder lt))) (λ bidder lt. subst (λ (row : List ℕ).
      activity setup.products row ≤ (holding_at now.holdings bidder).eligibility) (sym (asked_row bidder lt))
      (subst (λ (most : ℕ). activity setup.products (asked_demands (length setup.products) (bids_at now.sheets bidder))
      ≤ most) (first_limit now.public_state.round (holding_at now.holdings bidder).eligibility first)
      (good_sheet_activity setup now.public_state.round now.public_state.prices (holding_at now.holdings bidder)
      (bids_at now.sheets bidder) (sound.good bidder lt))))

  -- The requests of a bidder's sheet in a later round.
  pub changes_at : 2 ≤ now.public_state.round → (bidder : ℕ) → bidder < length now.holdings → AreChangesOf
      setup.products now.public_state.prices (holding_at now.holdings bidder).demands bidder (requests_by now bidder)
  changes_at later bidder lt = good_sheet_changes setup now.public_state.round now.public_state.prices
      (holding_at now.holdings bidder) bidder (bids_at now.sheets bidder) sound.few_products sound.limits
      sound.priced.pairs (sound.priced.rising later) (sound.within bidder lt).row (sound.good bidder lt)

  abbrev pub all_requests : List Change
  all_requests = flat_map (requests_by now) (bidder_numbers now)

  -- No two requests have the same bidder, product, and index in the chain.
  pub own_places : 2 ≤ now.public_state.round → AllPairs AreApart all_requests
  own_places later = apart_joined (requests_by now) (length now.holdings)
      (λ bidder lt. All-weaker (IsChangeOf setup.products now.public_state.prices bidder) (λ (change : Change).
      change.bidder ≡ bidder) (λ change is. is.bidder) (requests_by now bidder) (changes_at later bidder lt).all)
      (λ bidder lt. (changes_at later bidder lt).apart) 0 (length now.holdings) (omega arith)

  -- Each request is at a price of its product.
  pub priced_requests : 2 ≤ now.public_state.round → All (IsWithinPrices now.public_state.prices) all_requests
  priced_requests later = all_joined (requests_by now) (length now.holdings) (IsWithinPrices now.public_state.prices) 0
      (length now.holdings) (λ bidder from lt. All-weaker (IsChangeOf setup.products now.public_state.prices bidder)
      (IsWithinPrices now.public_state.prices) (λ change is. record {
        product = omega (arith, is.product, sound.priced.pairs);
        from_start = is.from_start;
        to_clock = is.to_clock;
      })
      (requests_by now bidder) (changes_at later bidder lt).all)
      (omega arith)

  -- The requests can be processed in any order.
  pub can_settle : 2 ≤ now.public_state.round → (list : List Change) → IsPermutation all_requests list →
      CanSettle (new_board setup.products (eligibilities_of now) (grid_of now)) list
  can_settle later list same = can_settle_all setup.products now.public_state.prices (eligibilities_of now)
      (grid_of now) (requests_by now) (length now.holdings) sound.few_bidders (length-map now.holdings _) (length-map
      now.holdings _) (λ bidder lt. subst (λ (row : List ℕ). AreChangesOf setup.products now.public_state.prices row
      bidder (requests_by now bidder)) (sym (demands_at bidder lt)) (changes_at later bidder lt)) list same

  before_board : IsBoard setup.products (eligibilities_of now) (grid_of now)
  before_board = record {
    limits = sound.limits;
    few_products = sound.few_products;
    few_bidders = omega (arith, sound.few_bidders, length-map now.holdings (λ (holding : Holding). holding.demands));
    within = before_within;
  }

  -- After a later round, demands are within the eligibilities.
  pub settled_within : 2 ≤ now.public_state.round → (list : List Change) → IsPermutation all_requests list →
      IsWithinEligibility setup.products (eligibilities_of now) (settlement setup.products now list).grid
  settled_within later list same = (settled_board (new_board setup.products (eligibilities_of now) (grid_of now)) list
      before_board (can_settle later list same)).within
