-- Proves that posted prices of a later round are from start-of-round price to clock price, and that one of them is the
-- clock price if the auction continues. From the price of each request, which is between these two.
use Rattle.std.proofs.Common.{◌≡◌, ℕ, ◌<◌, ◌≤◌, Bool, true, false, cond, List, [], ◌∷◌, length, get_or, map, refl, ap}
use Rattle.std.proofs.Common.{◌∙◌, arith, zero-add}
use Rattle.std.specs.Prelude.{All, Any, IfSome, fold, max, filter, zip, not, if◌then◌else◌}
use Rattle.std.specs.List.{list_any, range_with_len}
use Rattle.std.proofs.lemmas.Bool.Decides.{nat_tests}
use Rattle.std.proofs.lemmas.List.Elements.{All-nil, All-cons, All-head, All-tail, All-weaker, All-get_or}
use Rattle.std.proofs.lemmas.List.FromFn.{get_or-map-range_with_len, length-map-range_with_len}
use Rattle.clock_terms.specs.declared.increments.Increments.{Increments}
use Rattle.clock_terms.specs.declared.setup.Product.{Product}
use Rattle.clock_terms.specs.declared.prices.PricePair.{PricePair}
use Rattle.clock_terms.specs.Increments.{AreIncrements}
use Rattle.clock_terms.specs.Limits.{IsProduct}
use Rattle.clock_terms.specs.Prices.{prices_at}
use Rattle.clock_terms.specs.declared.change.Change.{Change}
use Rattle.clock_posting.specs.declared.posting.Posting.{Posting}
use Rattle.clock_posting.specs.inside.Parts.{least_price, lines_of_round, applied_prices, IsPriceRange}
use Rattle.clock_posting.specs.Posting.{has_excess, has_ended, next_prices, sheet_line, IsBetween, IsAtClock, IsPosting}
use Rattle.clock_posting.specs.PostedPrice.{is_applied_reduction, highest_or, posted_price, posted_prices}
use Rattle.clock_posting.specs.PostedPrice.{IsWithinPrices}
use Rattle.clock_posting.specs.inside.RoundEnd.{IsRoundEnd}
use Rattle.clock_posting.proofs.Ranges.{all_in_range, some_in_range}
use Rattle.clock_posting.proofs.Laws.{some_if_going_on}

not_false : (b : Bool) → not b ≡ false → b ≡ true
not_false true is = refl
not_false false is = cc

-- An applied reduction of a product is a request for that product.
applied_product : (product : ℕ) (change : Change) (left : ℕ) → is_applied_reduction product change left ≡ true
    → change.product ≡ product
applied_product product change left applied = grind (arith, nat_tests)

-- A property of the prices of all requests for a product is one of its applied prices.
applied_head : (P : ℕ → Type 0) (product : ℕ) (change : Change) (left : ℕ) (rest : List (Change × ℕ)) (b : Bool)
    → is_applied_reduction product change left ≡ b → (change.product ≡ product → P change.price)
    → All P (map (λ line. line.0.price) rest) → All P (map (λ line. line.0.price) (cond b ((change, left) ∷ rest) rest))
applied_head P product change left rest true applied here later =
    All-cons P change.price (map (λ line. line.0.price) rest) (here (applied_product product change left applied)) later
applied_head P product change left rest false applied here later = later

applied_within : (P : ℕ → Type 0) (product : ℕ) (changes : List Change) (left : List ℕ) →
    All (λ change. change.product ≡ product → P change.price) changes → All P (applied_prices changes left product)
applied_within P product [] left holds = All-nil P
applied_within P product (change ∷ changes) [] holds = All-nil P
applied_within P product (change ∷ changes) (l ∷ left) holds =
    let Q = λ (c : Change). c.product ≡ product → P c.price in
    applied_head P product change l (filter (λ line. is_applied_reduction product line.0 line.1) (zip changes left))
    (is_applied_reduction product change l) refl (All-head Q change changes holds)
    (applied_within P product changes left (All-tail Q change changes holds))

-- The highest of several prices is at least the first.
highest_from : (price : ℕ) (prices : List ℕ) → price ≤ fold max price prices
highest_from price [] = omega arith
highest_from price (x ∷ prices) = omega (arith, highest_from (max price x) prices)

highest_to : (most price : ℕ) (prices : List ℕ) → price ≤ most → All (λ x. x ≤ most) prices
    → fold max price prices ≤ most
highest_to most price [] first others = first
highest_to most price (x ∷ prices) first others =
    let here : x ≤ most = All-head (λ y. y ≤ most) x prices others in
    highest_to most (max price x) prices (omega arith) (All-tail (λ y. y ≤ most) x prices others)

-- A price that is lower than all others does not change the highest.
fold_is_highest : (start : ℕ) (prices : List ℕ) → All (λ x. start ≤ x) prices
    → fold max start prices ≡ highest_or start prices
fold_is_highest start [] above = refl
fold_is_highest start (x ∷ prices) above =
    let here : start ≤ x = All-head (λ y. start ≤ y) x prices above in
    ap (λ price. fold max price prices) (omega arith)

highest_at : (most : ℕ) (prices : List ℕ) → All (λ x. x ≤ most) prices → fold max most prices ≡ most
highest_at most [] below = refl
highest_at most (x ∷ prices) below =
    let here : x ≤ most = All-head (λ y. y ≤ most) x prices below in
    ap (λ price. fold max price prices) (omega arith) ∙ highest_at most prices (All-tail (λ y. y ≤ most) x prices below)

highest_or_from : (start : ℕ) (prices : List ℕ) → All (λ x. start ≤ x) prices → start ≤ highest_or start prices
highest_or_from start prices above =
    omega (arith, highest_from start prices, fold_is_highest start prices above)

highest_or_to : (start most : ℕ) (prices : List ℕ) → start ≤ most → All (λ x. start ≤ x) prices
    → All (λ x. x ≤ most) prices → highest_or start prices ≤ most
highest_or_to start most prices first above below =
    omega (arith, highest_to most start prices first below, fold_is_highest start prices above)

-- Applied prices are at least the start-of-round price; below, at most the clock price.
applied_from_start : (prices : List PricePair) (changes : List Change) (left : List ℕ) (product : ℕ)
    → All (IsWithinPrices prices) changes
    → All (λ price. (prices_at prices product).start ≤ price) (applied_prices changes left product)
applied_from_start prices changes left product priced =
    let P = λ (price : ℕ). (prices_at prices product).start ≤ price in
    applied_within P product changes left (All-weaker (IsWithinPrices prices) (λ c. c.product ≡ product → P c.price)
    (λ c h is. rw is at h.from_start) changes priced)

applied_to_clock : (prices : List PricePair) (changes : List Change) (left : List ℕ) (product : ℕ) → All (IsWithinPrices
    prices) changes → All (λ price. price ≤ (prices_at prices product).clock) (applied_prices changes left product)
applied_to_clock prices changes left product priced =
    let P = λ (price : ℕ). price ≤ (prices_at prices product).clock in
    applied_within P product changes left (All-weaker (IsWithinPrices prices) (λ c. c.product ≡ product → P c.price)
    (λ c h is. rw is at h.to_clock) changes priced)

module _ (products : List Product) (prices : List PricePair) (changes : List Change) (left : List ℕ)
    (grid : List (List ℕ)) where
  -- There is a posted price for each product.
  pub length-posted_prices : length (posted_prices products prices changes left grid) ≡ length products
  length-posted_prices =
      length-map-range_with_len (posted_price products prices changes left grid) 0 (length products)

  pub posted_at : (product : ℕ) → product < length products → get_or (posted_prices products prices changes left grid)
      product 0 ≡ posted_price products prices changes left grid product
  posted_at product below = get_or-map-range_with_len (posted_price products prices changes left grid) 0
      (length products) product product 0 below (zero-add product)

  price_between : (product : ℕ) (excess : Bool) → IsPriceRange (prices_at prices product) → All (IsWithinPrices prices)
      changes → ((prices_at prices product).start ≤ (if excess then (prices_at prices product).clock
      else highest_or (prices_at prices product).start (applied_prices changes left product)))
      × ((if excess then (prices_at prices product).clock else highest_or (prices_at prices product).start
      (applied_prices changes left product)) ≤ (prices_at prices product).clock)
  price_between product true ordered priced = (ordered, omega arith)
  price_between product false ordered priced =
      let above = applied_from_start prices changes left product priced in (
        highest_or_from _ _ above,
        highest_or_to _ _ _ ordered above (applied_to_clock prices changes left product priced),
      )

  -- The highest of the least posted price and the applied prices is the posted price.
  raised_by : (product : ℕ) (excess : Bool) → All (IsWithinPrices prices) changes
      → fold max (if excess then (prices_at prices product).clock else (prices_at prices product).start)
      (applied_prices changes left product) ≡ (if excess then (prices_at prices product).clock
      else highest_or (prices_at prices product).start (applied_prices changes left product))
  raised_by product true priced = highest_at _ _ (applied_to_clock prices changes left product priced)
  raised_by product false priced = fold_is_highest _ _ (applied_from_start prices changes left product priced)

  pub raised_is_posted : (product : ℕ) → All (IsWithinPrices prices) changes → fold max (least_price products prices
      grid product) (applied_prices changes left product) ≡ posted_price products prices changes left grid product
  raised_is_posted product priced = raised_by product (has_excess products grid product) priced

  -- Each posted price is from start-of-round price to clock price.
  pub posted_between : (increments : Increments) (product : ℕ) → length prices ≡ length products
      → All IsPriceRange prices → All (IsWithinPrices prices) changes → product < length products
      → IsBetween (sheet_line products prices grid (posted_prices products prices changes left grid) increments product)
  posted_between increments product each ordered priced below =
      let here = price_between product (has_excess products grid product)
      (All-get_or IsPriceRange prices product (record { start = 0; clock = 0 }) (omega (arith, each)) ordered) priced in
      let is = posted_at product below in
      record { from_start = omega (arith, here.0, is); to_clock = omega (arith, here.1, is) }

  -- The input of a later round's posting fits together.
  pub later_round_end : (increments : Increments) → All IsProduct products
      → All (λ row. length row ≡ length products) grid → AreIncrements (length products) increments
      → length prices ≡ length products → All IsPriceRange prices → All (IsWithinPrices prices) changes
      → IsRoundEnd products prices grid (posted_prices products prices changes left grid) increments
  later_round_end increments limits rows are each ordered priced = record {
    limits = limits;
    prices_each = each;
    rows = rows;
    posted_each = length-posted_prices;
    increments_each = are;
    between = λ k below. posted_between increments k each ordered priced below;
  }

  -- Posted prices are one dollar at least.
  pub posted_dollars : length prices ≡ length products → All IsPriceRange prices → All (IsWithinPrices prices) changes →
      All (λ pair. 1 ≤ pair.start) prices → All (λ price. 1 ≤ price) (posted_prices products prices changes left grid)
  posted_dollars each ordered priced some =
      all_in_range (λ price. 1 ≤ price) (posted_price products prices changes left grid) (length products) (λ k below.
      let d : PricePair = record { start = 0; clock = 0 } in
      let in_range : k < length prices = omega (arith, each) in
      let here =
      price_between k (has_excess products grid k) (All-get_or IsPriceRange prices k d in_range ordered) priced in
      omega (arith, here.0, some k d in_range))

  -- If the auction continues, some posted price is the clock price.
  pub some_at_clock : (increments : Increments) → has_ended products grid ≡ false →
      Any IsAtClock (lines_of_round products prices grid (posted_prices products prices changes left grid) increments)
  some_at_clock increments goes_on = some_in_range IsAtClock
      (sheet_line products prices grid (posted_prices products prices changes left grid) increments)
      (has_excess products grid) (length products) (λ k below excess. posted_at k below ∙ ap (λ b. if b then
      (prices_at prices k).clock else highest_or (prices_at prices k).start (applied_prices changes left k)) excess)
      (not_false (list_any (has_excess products grid) (range_with_len 0 (length products))) goes_on)

  pub clock_posted : (round : ℕ) (increments : Increments) (posting : Posting) →
      IsPosting round products prices grid (posted_prices products prices changes left grid) increments posting →
      IfSome posting.next (λ _. Any IsAtClock posting.sheet.lines)
  clock_posted round increments posting is =
      rw (is.sheet, is.next) (some_if_going_on (has_ended products grid) (next_prices products increments
      (posted_prices products prices changes left grid)) (λ _. Any IsAtClock (lines_of_round products prices grid
      (posted_prices products prices changes left grid) increments)) (some_at_clock increments))
