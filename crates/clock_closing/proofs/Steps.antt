-- Proves what each step of a closing requires, from the invariant of an open round.
use Rattle.std.proofs.Common.{◌≡◌, ℕ, ◌<◌, ◌≤◌, List, true, false, refl, ap, subst, ◌∙◌, arith, length, All}
use Rattle.std.specs.Prelude.{None}
use Rattle.std.proofs.lemmas.List.{length-map}
use Rattle.clock_terms.specs.declared.increments.Increments.{Increments}
use Rattle.clock_terms.specs.declared.setup.Product.{Product}
use Rattle.clock_terms.specs.Limits.{IsRow, SetupFields, cap_of, public_setup}
use Rattle.clock_terms.specs.Increments.{are_increments}
use Rattle.clock_terms.specs.Demands.{IsGrid}
use Rattle.clock_bids.specs.Sheet.{asked_demands}
use Rattle.clock_bids.proofs.Good.{good_sheet_capped, good_sheet_chains, good_sheet_row}
use Rattle.clock_order.specs.declared.ties.Tie.{Tie}
use Rattle.clock_order.specs.Ties.{tie_fault}
use Rattle.clock_processor.specs.Board.{IsWithinEligibility}
use Rattle.clock_closing.specs.Holdings.{Holding}
use Rattle.clock_closing.specs.OpenRound.{IsOpenRound, OpenRoundFields, holding_at, bids_at}
use Rattle.clock_closing.specs.inside.OpenRound.{eligibilities_of}
use Rattle.clock_closing.specs.Closing.{closing}
use Rattle.clock_closing.specs.inside.Postings.{posted_now}
use Rattle.clock_closing.proofs.Posts.{closes-fair}

-- The invariant holds of the value that contracts see.
pub is_open : {inside round : OpenRoundFields} → inside ≡ round → IsOpenRound inside → IsOpenRound round
is_open same is = subst IsOpenRound same is

module _ (round : OpenRoundFields) (is : IsOpenRound round) where
  module _ (bidder : ℕ) (lt : bidder < length round.setup.bidders) where
    in_range : bidder < length round.before.holdings
    in_range = omega (arith, lt, is.holdings)

    -- Each bid in force is for a product of the set-up.
    pub known_bids : All (λ bid. bid.product < length round.setup.products) (bids_at round.before.sheets bidder)
    known_bids = (good_sheet_chains (public_setup round.setup) round.before.public_state.round
        round.before.public_state.prices (holding_at round.before.holdings bidder) (bids_at round.before.sheets bidder)
        (is.sound.good bidder in_range)).known

    -- None is above the cap of its product.
    pub capped_bids : All (λ bid. bid.quantity ≤ cap_of round.setup.products bid.product)
        (bids_at round.before.sheets bidder)
    capped_bids =
        good_sheet_capped (public_setup round.setup) round.before.public_state.round round.before.public_state.prices
        (holding_at round.before.holdings bidder) (bids_at round.before.sheets bidder) (is.sound.good bidder in_range)

    -- The requested demands of a sheet are a row: one for each product, within the caps.
    pub asked_row : IsRow round.setup.products
        (asked_demands (length round.setup.products) (bids_at round.before.sheets bidder))
    asked_row =
        good_sheet_row (public_setup round.setup) round.before.public_state.round round.before.public_state.prices
        (holding_at round.before.holdings bidder) (bids_at round.before.sheets bidder) (is.sound.good bidder in_range)

  -- Demands within the eligibilities are a grid.
  pub within_grid : (grid : List (List ℕ)) → IsWithinEligibility round.setup.products
      (eligibilities_of round.before) grid → IsGrid (length round.setup.bidders) (length round.setup.products) grid
  within_grid grid within = (
    within.bidders ∙ length-map round.before.holdings (λ (held : Holding). held.eligibility) ∙ is.holdings,
    λ k d lt. (within.rows k d lt).each,
  )

  -- With allowed increments and tie-breaking numbers without a fault, the result of the closing is that of the posting.
  pub closes-good : (increments : Increments) (ties : List Tie) → round.before.public_state.ended ≡ false →
      are_increments (length round.setup.products) increments ≡ true →
      tie_fault (length round.setup.bidders) (length round.setup.products) ties ≡ None →
      closing (public_setup round.setup) round.before round.before.public_state.round increments ties
      ≡ posted_now round increments ties
  closes-good increments ties going within fair =
      closes-fair (public_setup round.setup) round.before round.before.public_state.round increments ties going refl
      within (ap (λ (n : ℕ). tie_fault n (length round.setup.products) ties) is.holdings ∙ fair)

  -- So it is if the checks use equal parts of the set-up.
  pub closes-tested : (setup : SetupFields) (listed : List Product) (increments : Increments) (ties : List Tie)
      → round.before.public_state.ended ≡ false → setup ≡ round.setup → listed ≡ setup.products
      → are_increments (length listed) increments ≡ true → tie_fault (length setup.bidders) (length setup.products) ties
      ≡ None → closing (public_setup round.setup) round.before round.before.public_state.round increments ties
      ≡ posted_now round increments ties
  closes-tested setup listed increments ties going same read within fair =
      closes-good increments ties going (subst (λ (list : List Product). are_increments (length list) increments ≡ true)
      (read ∙ ap (λ (one : SetupFields). one.products) same) within)
      (subst (λ (one : SetupFields). tie_fault (length one.bidders) (length one.products) ties ≡ None) same fair)
