-- Proves that the results of a round in order are in order again: demands within limits, next prices in order, and
-- products that were full stay full. Each for round 1 and for later rounds.
use Rattle.std.proofs.Common.{◌≡◌, ℕ, zero, suc, ◌+◌, ◌<◌, ◌≤◌, ◌⊎◌, inl, inr, List, Bool, true, false, cond}
use Rattle.std.proofs.Common.{refl, ap, sym, subst, ◌∙◌, arith, get_or, length, All, eq-eqb, ne_eqb}
use Rattle.std.specs.Prelude.{None, Any, map, sum_by, IsPermutation}
use Rattle.std.specs.List.{range_with_len}
use Rattle.std.proofs.lemmas.List.{length-map}
use Rattle.std.proofs.lemmas.List.FromFn.{length-map-range_with_len}
use Rattle.std.proofs.lemmas.List.Elements.{All-weaker}
use Rattle.clock_money.specs.Price.{highest_price}
use Rattle.clock_terms.specs.declared.setup.Product.{Product}
use Rattle.clock_terms.specs.declared.prices.PricePair.{PricePair}
use Rattle.clock_terms.specs.declared.increments.Increments.{Increments}
use Rattle.clock_terms.specs.Limits.{PublicSetup, IsProduct, supply_of}
use Rattle.clock_terms.specs.Increments.{AreIncrements}
use Rattle.clock_terms.specs.Prices.{prices_at, opening_prices}
use Rattle.clock_terms.specs.Demands.{total_of}
use Rattle.clock_order.specs.declared.ties.Tie.{Tie}
use Rattle.clock_processor.specs.Board.{IsWithinEligibility}
use Rattle.clock_processor.proofs.Supply.{settled_supplied}
use Rattle.clock_posting.specs.declared.sheet.Line.{Line}
use Rattle.clock_posting.specs.inside.Parts.{first_at_limit, lines_of_round, IsPriceRange}
use Rattle.clock_posting.specs.Posting.{has_ended, opening_posted, next_price, next_prices, price_limit_fault}
use Rattle.clock_posting.specs.Posting.{sheet_line, next_pair, IsBetween, IsRising, IsAtClock}
use Rattle.clock_posting.specs.PostedPrice.{posted_prices, IsWithinPrices}
use Rattle.clock_posting.proofs.Ranges.{all_in_range}
use Rattle.clock_posting.proofs.Laws.{lines_between, lines_show, opening_between, opening_dollars}
use Rattle.clock_posting.proofs.Posted.{length-posted_prices, posted_between, posted_dollars, some_at_clock}
use Rattle.clock_closing.specs.PublicState.{PublicState}
use Rattle.clock_closing.specs.OpenRound.{OpenRound, HasSoundPrices, IsOpen}
use Rattle.clock_closing.specs.inside.OpenRound.{eligibilities_of, grid_of}
use Rattle.clock_closing.specs.Closing.{RoundResult, requests, first_result, later_result, round_result, settlement}
use Rattle.clock_closing.proofs.OpenRounds.{all_requests, asked_within, settled_within, priced_requests}
use Rattle.clock_order.proofs.InOrder.{processing_permutes}
use Rattle.clock_posting.proofs.NextPrices.{next_rising, next_within}
use Rattle.clock_closing.proofs.Sums.{sum_by-lt_sum_by, length-le-sum_by, sum_by-map, map-get_or}
use Rattle.std.proofs.lemmas.List.Sorted.{All-permutation}

-- The result of round 1; below, that of a later round.
pub result-first : (products : List Product) (now : OpenRound) (ties : List Tie) → now.public_state.round ≡ 1 →
    round_result products now ties ≡ first_result products now
result-first products now ties e = ap (λ first. cond first (first_result products now)
    (later_result products now (requests now ties))) (eq-eqb now.public_state.round 1 e)

pub result-later : (products : List Product) (now : OpenRound) (ties : List Tie) → 2 ≤ now.public_state.round →
    round_result products now ties ≡ later_result products now (requests now ties)
result-later products now ties later =
    ap (λ first. cond first (first_result products now) (later_result products now (requests now ties)))
    (ne_eqb now.public_state.round 1 (λ e. omega (arith, e, later)))

-- A round is the first or a later one.
pub first_or_later : (round : ℕ) → 1 ≤ round → (round ≡ 1) ⊎ (2 ≤ round)
first_or_later zero some = absurd (omega (arith, some))
first_or_later (suc zero) some = inl refl
first_or_later (suc (suc n)) some = inr (omega arith)

-- There is a posted price for each product, of one dollar at least, from start-of-round price to clock price.
pub record ArePosted (products : List Product) (prices : List PricePair) (grid : List (List ℕ)) (posted : List ℕ)
    (increments : Increments) : Type 0 where
  pub lengths : length posted ≡ length products
  pub positive : All (λ price. 1 ≤ price) posted
  pub between : All IsBetween (lines_of_round products prices grid posted increments)

module _ (setup : PublicSetup) (now : OpenRound) (sound : IsOpen setup now) (ties : List Tie)
    (first : 1 ≤ now.public_state.round) where
  later_list : IsPermutation (all_requests setup now sound) (requests now ties)
  later_list = processing_permutes ties (all_requests setup now sound)

  -- Each bidder's demands are within its eligibility.
  pub result_within : IsWithinEligibility setup.products (eligibilities_of now)
      (round_result setup.products now ties).grid
  result_within = elim (first_or_later now.public_state.round first)
      as (λ _. IsWithinEligibility setup.products (eligibilities_of now) (round_result setup.products now ties).grid) [
        | inl one ↦ subst (λ (result : RoundResult). IsWithinEligibility setup.products (eligibilities_of now)
            result.grid) (sym (result-first setup.products now ties one)) (asked_within setup now sound one)
        | inr later ↦ subst (λ (result : RoundResult). IsWithinEligibility setup.products
            (eligibilities_of now) result.grid) (sym (result-later setup.products now ties later))
            (settled_within setup now sound later (requests now ties) later_list)
      ]

  priced_list : 2 ≤ now.public_state.round → All (IsWithinPrices now.public_state.prices) (requests now ties)
  priced_list later = All-permutation (IsWithinPrices now.public_state.prices) (all_requests setup now sound)
      (requests now ties) later_list (priced_requests setup now sound later)

  first_posted : (increments : Increments) → now.public_state.prices ≡ opening_prices setup.products
      → ArePosted setup.products now.public_state.prices (first_result setup.products now).grid
      (first_result setup.products now).posted increments
  first_posted increments opening = record {
    lengths = length-map setup.products _;
    positive = opening_dollars setup.products sound.limits;
    between = subst (λ (prices : List PricePair). All IsBetween (lines_of_round setup.products prices
        (first_result setup.products now).grid (opening_posted setup.products) increments)) (sym opening) (lines_between
        setup.products (opening_prices setup.products) (first_result setup.products now).grid (opening_posted
        setup.products) increments (opening_between setup.products (first_result setup.products now).grid increments));
  }

  later_posted : (increments : Increments) → 2 ≤ now.public_state.round →
      ArePosted setup.products now.public_state.prices (later_result setup.products now (requests now ties)).grid
      (later_result setup.products now (requests now ties)).posted increments
  later_posted increments later =
      let end = settlement setup.products now (requests now ties) in
      let prices = now.public_state.prices in
      record {
        lengths = length-posted_prices setup.products prices (requests now ties) end.left end.grid;
        positive = posted_dollars setup.products prices (requests now ties) end.left end.grid sound.priced.pairs
            sound.priced.ordered (priced_list later) sound.priced.positive;
        between = lines_between setup.products prices end.grid (posted_prices setup.products prices (requests now ties)
            end.left end.grid) increments (λ k lt. posted_between setup.products prices (requests now ties) end.left
            end.grid increments k sound.priced.pairs sound.priced.ordered (priced_list later) lt);
      }

  -- The posted prices are in order.
  pub result_posted : (increments : Increments) → (now.public_state.round ≡ 1
      → now.public_state.prices ≡ opening_prices setup.products) → ArePosted setup.products now.public_state.prices
      (round_result setup.products now ties).grid (round_result setup.products now ties).posted increments
  result_posted increments opening =
      elim (first_or_later now.public_state.round first) as (λ _. ArePosted setup.products now.public_state.prices
      (round_result setup.products now ties).grid (round_result setup.products now ties).posted increments) [
        | inl one ↦
            subst (λ (result : RoundResult). ArePosted setup.products now.public_state.prices result.grid result.posted
            increments) (sym (result-first setup.products now ties one)) (first_posted increments (opening one))
        | inr later ↦ subst (λ (result : RoundResult). ArePosted setup.products now.public_state.prices result.grid
            result.posted increments) (sym (result-later setup.products now ties later)) (later_posted increments later)
      ]

  -- In a later round that does not end the auction, some price has risen to the clock price.
  pub result_risen : (increments : Increments) → 2 ≤ now.public_state.round → has_ended setup.products (round_result
      setup.products now ties).grid ≡ false → Any IsAtClock (lines_of_round setup.products now.public_state.prices
      (round_result setup.products now ties).grid (round_result setup.products now ties).posted increments)
  result_risen increments later going =
      let end = settlement setup.products now (requests now ties) in
      let same = result-later setup.products now ties later in
      subst (λ (result : RoundResult). Any IsAtClock
      (lines_of_round setup.products now.public_state.prices result.grid result.posted increments)) (sym same)
      (some_at_clock setup.products now.public_state.prices (requests now ties) end.left end.grid increments
      (ap (λ (result : RoundResult). has_ended setup.products result.grid) (sym same) ∙ going))

  -- A product that was full before the round is full after it.
  pub result_supplied : 2 ≤ now.public_state.round → (product : ℕ)
      → supply_of setup.products product ≤ total_of (grid_of now) product
      → supply_of setup.products product ≤ total_of (round_result setup.products now ties).grid product
  result_supplied later product sold =
      omega (
        arith,
        sold,
        settled_supplied setup.products (eligibilities_of now) (requests now ties) (grid_of now) product,
        ap (λ (result : RoundResult). total_of result.grid product) (result-later setup.products now ties later),
      )

-- These lemmas are about numbers only: a search uses all that is in scope.
from_one : (next now : ℕ) → next ≡ now + 1 → 1 ≤ next
from_one next now is = omega (arith, is)

rising_range : (pair : PricePair) → IsRising pair → IsPriceRange pair
rising_range pair is = omega (arith, is)

start_within : (pair : PricePair) → IsRising pair → pair.clock ≤ highest_price → pair.start ≤ highest_price
start_within pair rises most = omega (arith, rises, most)

first_bound : (next now long products sum : ℕ) → next ≡ now + 1 → now ≡ 1 → long ≡ products → long ≤ sum
    → next + products ≤ 2 + sum
first_bound next now long products sum is one many most = omega (arith, is, one, many, most)

later_bound : (next now products sum more posted : ℕ) → next ≡ now + 1 → now + products ≤ 2 + sum → more ≡ posted
    → sum < posted → next + products ≤ 2 + more
later_bound next now products sum more posted is bound same rises = omega (arith, is, bound, same, rises)

-- The next prices of a round that does not end the auction.
module _ (products : List Product) (now : PublicState) (priced : HasSoundPrices products now) (grid : List (List ℕ))
    (posted : List ℕ) (increments : Increments) (are : ArePosted products now.prices grid posted increments)
    (limits : All IsProduct products) (rise : AreIncrements (length products) increments)
    (going : has_ended products grid ≡ false) (possible : price_limit_fault products grid posted increments ≡ None)
    (risen : 2 ≤ now.round → Any IsAtClock (lines_of_round products now.prices grid posted increments)) where
  lines : List Line
  lines = lines_of_round products now.prices grid posted increments

  no_limit : (ended : Bool) → ended ≡ false → cond ended None (first_at_limit products increments posted) ≡ None →
      first_at_limit products increments posted ≡ None
  no_limit true e h = cc
  no_limit false e h = h

  limit : first_at_limit products increments posted ≡ None
  limit = no_limit (has_ended products grid) going possible

  shown : next_prices products increments posted
      ≡ map next_pair (lines_of_round products now.prices grid posted increments)
  shown = lines_show products now.prices grid posted increments going

  rising : All IsRising (map next_pair (lines_of_round products now.prices grid posted increments))
  rising =
      subst (All IsRising) shown (next_rising products increments posted limit rise limits are.lengths are.positive)

  -- The sum of the start-of-round prices, from the lines of the round results.
  starts : sum_by (λ (line : Line). line.start) (lines_of_round products now.prices grid posted increments)
      ≡ sum_by (λ (pair : PricePair). pair.start) now.prices
  starts = sum_by-map (λ (line : Line). line.start) (sheet_line products now.prices grid posted increments)
      (range_with_len 0 (length products)) ∙ sym (sum_by-map (λ (pair : PricePair). pair.start) (prices_at now.prices)
      (range_with_len 0 (length products))) ∙ ap (sum_by (λ (pair : PricePair). pair.start))
      (map-get_or now.prices (length products) (record { start = 0; clock = 0 }) priced.pairs)

  above_start : 2 ≤ now.round
      → All (λ (line : Line). line.start < line.clock) (lines_of_round products now.prices grid posted increments)
  above_start later = all_in_range (λ (line : Line). line.start < line.clock)
      (sheet_line products now.prices grid posted increments) (length products)
      (λ k lt. priced.rising later k (record { start = 0; clock = 0 }) (subst (λ n. k < n) (sym priced.pairs) lt))

  sum_rises : 2 ≤ now.round → sum_by (λ (pair : PricePair). pair.start) now.prices
      < sum_by (λ (line : Line). line.posted) (lines_of_round products now.prices grid posted increments)
  sum_rises later =
      let here = risen later in
      let long : here.0 < length (lines_of_round products now.prices grid posted increments) = here.2 in
      let line : Line = get_or (lines_of_round products now.prices grid posted increments) here.0 here.1 in
      let at : line.posted ≡ line.clock = subst (λ (one : Line). one.posted ≡ one.clock) (sym here.3) here.4 in
      let above : line.start < line.clock = above_start later here.0 here.1 long in
      let less = sum_by-lt_sum_by (λ (line : Line). line.start) (λ (line : Line). line.posted)
      (lines_of_round products now.prices grid posted increments) here.0 here.1 long
      (All-weaker IsBetween (λ (line : Line). line.start ≤ line.posted) (λ line is. is.from_start)
      (lines_of_round products now.prices grid posted increments) are.between)
      (subst (λ n. line.start < n) (sym at) above) in
      subst (λ n. n
      < sum_by (λ (line : Line). line.posted) (lines_of_round products now.prices grid posted increments)) starts less

  long_lines : length (map next_pair (lines_of_round products now.prices grid posted increments)) ≡ length products
  long_lines = length-map (lines_of_round products now.prices grid posted increments) next_pair
      ∙ length-map-range_with_len (sheet_line products now.prices grid posted increments) 0 (length products)

  next_starts : sum_by (λ (pair : PricePair). pair.start) (map next_pair (lines_of_round products now.prices grid posted
      increments)) ≡ sum_by (λ (line : Line). line.posted) (lines_of_round products now.prices grid posted increments)
  next_starts = sum_by-map (λ (pair : PricePair). pair.start) next_pair
      (lines_of_round products now.prices grid posted increments)

  next_some : All (λ (pair : PricePair). 1 ≤ pair.start)
      (map next_pair (lines_of_round products now.prices grid posted increments))
  next_some = subst (All (λ (pair : PricePair). 1 ≤ pair.start)) shown
      (all_in_range (λ (pair : PricePair). 1 ≤ pair.start) (next_price products increments posted) (length products)
      (λ k lt. are.positive k 0 (subst (λ n. k < n) (sym are.lengths) lt)))

  next_highest : All (λ (pair : PricePair). pair.start ≤ highest_price)
      (map next_pair (lines_of_round products now.prices grid posted increments))
  next_highest =
      let clocks : All (λ (pair : PricePair). pair.clock ≤ highest_price)
      (map next_pair (lines_of_round products now.prices grid posted increments)) = subst
      (All (λ (pair : PricePair). pair.clock ≤ highest_price)) shown (next_within products increments posted limit) in
      λ k d lt. start_within _ (rising k d lt) (clocks k d lt)

  bounded_next : (next : ℕ) → next ≡ now.round + 1 → 1 ≤ now.round → next + length products ≤ 2 + sum_by
      (λ (pair : PricePair). pair.start) (map next_pair (lines_of_round products now.prices grid posted increments))
  bounded_next next is some = elim (first_or_later now.round some) as (λ _. next + length products ≤ 2 + sum_by
      (λ (pair : PricePair). pair.start) (map next_pair (lines_of_round products now.prices grid posted increments))) [
        | inl one ↦ first_bound next now.round _ _ _ is one long_lines
            (length-le-sum_by (λ (pair : PricePair). pair.start)
            (map next_pair (lines_of_round products now.prices grid posted increments)) next_some)
        | inr later ↦ later_bound next now.round _ _ _ _ is (priced.bounded later) next_starts (sum_rises later)
      ]

  -- The next prices are in order.
  pub priced_next : (public_state : PublicState) → public_state.round ≡ now.round + 1
      → public_state.prices ≡ map next_pair (lines_of_round products now.prices grid posted increments) → 1 ≤ now.round
      → HasSoundPrices products public_state
  priced_next public_state number prices some =
      let P = λ (list : List PricePair). HasSoundPrices products
      (record { ended = public_state.ended; round = public_state.round; prices = list }) in
      subst P (sym prices)
      (record {
        numbered = from_one public_state.round now.round number;
        pairs = long_lines;
        ordered = All-weaker IsRising IsPriceRange rising_range
            (map next_pair (lines_of_round products now.prices grid posted increments)) rising;
        positive = next_some;
        highest = next_highest;
        rising = λ _. rising;
        bounded = λ _. bounded_next public_state.round number some;
      })
