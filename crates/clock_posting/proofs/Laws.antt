-- Proves the laws of every posting, line by line of the round results.
use Rattle.std.proofs.Common.{◌≡◌, ℕ, ◌<◌, ◌≤◌, Bool, true, false, List, length, get_or, map, Option, None, refl, ap}
use Rattle.std.proofs.Common.{sym, ◌∙◌, arith, zero-add}
use Rattle.std.specs.Prelude.{◌↔◌, All, IsNone, IsTrue, IfSome, Some, if◌then◌else◌}
use Rattle.std.specs.List.{range_with_len}
use Rattle.std.proofs.lemmas.List.{get_or-map, length-map}
use Rattle.std.proofs.lemmas.List.FromFn.{length-map-range_with_len, get_or-map-range_with_len, fill_by_all}
use Rattle.std.proofs.lemmas.List.Elements.{All-map, All-weaker}
use Rattle.std.proofs.lemmas.Simd.{map-map}
use Rattle.clock_terms.specs.declared.increments.Increments.{Increments}
use Rattle.clock_terms.specs.declared.setup.Product.{Product}
use Rattle.clock_terms.specs.declared.prices.PricePair.{PricePair}
use Rattle.clock_terms.specs.Limits.{IsProduct, no_product}
use Rattle.clock_terms.specs.Increments.{AreIncrements}
use Rattle.clock_terms.specs.Prices.{prices_at, opening_prices}
use Rattle.clock_posting.specs.declared.posting.Posting.{Posting}
use Rattle.clock_posting.specs.inside.Parts.{least_price, lines_of_round}
use Rattle.clock_posting.specs.Posting.{has_excess, has_ended, next_clock, opening_posted, next_prices, sheet_line}
use Rattle.clock_posting.specs.Posting.{next_pair, IsBetween, IsRising, IsPosting, IsConsistent}
use Rattle.clock_posting.specs.inside.RoundEnd.{HasClocks, IsRoundEnd}
use Rattle.clock_posting.proofs.Ranges.{all_in_range}

-- There are no next prices if and only if the auction has ended.
none_if_ended : (ended : Bool) (next : List PricePair) → IsNone (if ended then None else Some next) ↔ IsTrue ended
none_if_ended true next = (λ _. refl, λ _. refl)
none_if_ended false next = (λ h. cc, λ h. cc)

-- A property that next prices have if the auction continues.
pub some_if_going_on : (ended : Bool) (next : List PricePair) (P : List PricePair → Type 0) → (ended ≡ false → P next) →
    IfSome (if ended then None else Some next) P
some_if_going_on true next P holds = tt
some_if_going_on false next P holds = holds refl

-- The next clock price in a line, without next prices; below, with them.
pub none_shown : (ended : Bool) (pairs : List PricePair) (clock : Option ℕ)
    → None ≡ (if ended then None else Some pairs) → None ≡ (if ended then None else clock)
none_shown true pairs clock is = refl
none_shown false pairs clock is = cc

pub some_shown : (ended : Bool) (pairs prices : List PricePair) (clock : Option ℕ) (price : ℕ) → Some prices
    ≡ (if ended then None else Some pairs) → clock ≡ Some price → Some price ≡ (if ended then None else clock)
some_shown true pairs prices clock price is shown = cc
some_shown false pairs prices clock price is shown = sym shown

-- There are next prices for each product.
pub clocks_each : (products : List Product) (increments : Increments) (posted : List ℕ) (prices : List PricePair) →
    HasClocks products increments posted prices → length products ≡ length prices
clocks_each products increments posted prices has = sym (length-map-range_with_len
    (next_clock products increments posted) 0 (length products)) ∙ ap length has ∙ length-map prices _

-- A product's clock price in the next prices is its next clock price.
pub clock_of : (products : List Product) (increments : Increments) (posted : List ℕ) (prices : List PricePair) (k : ℕ)
    → k < length products → HasClocks products increments posted prices
    → next_clock products increments posted k ≡ Some (prices_at prices k).clock
clock_of products increments posted prices k below has =
    let long : length products ≡ length prices = clocks_each products increments posted prices has in
    sym (get_or-map-range_with_len (next_clock products increments posted) 0 (length products) k k None below
    (zero-add k)) ∙ ap (λ (list : List (Option ℕ)). get_or list k None) has ∙ get_or-map
    (λ (pair : PricePair). Some pair.clock) prices k (record { start = 0; clock = 0 }) None (omega (arith, below, long))

module _ (products : List Product) (prices : List PricePair) (grid : List (List ℕ)) (posted : List ℕ)
    (increments : Increments) where
  -- The next prices are those of the lines.
  pub lines_show : has_ended products grid ≡ false →
      next_prices products increments posted ≡ map next_pair (lines_of_round products prices grid posted increments)
  lines_show goes_on = sym (map-map next_pair (sheet_line products prices grid posted increments)
      (range_with_len 0 (length products)) ∙ rw goes_on)

  -- A property of each product's line is one of all lines.
  pub lines_between : ((k : ℕ) → k < length products → IsBetween (sheet_line products prices grid posted increments k))
      → All IsBetween (lines_of_round products prices grid posted increments)
  lines_between between =
      all_in_range IsBetween (sheet_line products prices grid posted increments) (length products) between

  pub consistent : (round : ℕ) (posting : Posting) → ((k : ℕ) → k < length products
      → IsBetween (sheet_line products prices grid posted increments k)) → IfSome posting.next (All IsRising)
      → IsPosting round products prices grid posted increments posting → IsConsistent posting
  consistent round posting between rising is = record {
    between = rw is.sheet (lines_between between);
    end = rw (is.sheet, is.next) (none_if_ended (has_ended products grid) (next_prices products increments posted));
    shown = rw (is.sheet, is.next) (some_if_going_on (has_ended products grid) (next_prices products increments posted)
        (λ next. next ≡ map next_pair (lines_of_round products prices grid posted increments)) lines_show);
    rising = rising;
  }

-- In round 1 the posted price is from start-of-round price to clock price: all three are the opening price.
pub opening_between : (products : List Product) (grid : List (List ℕ)) (increments : Increments) (k : ℕ) → k < length
    products → IsBetween (sheet_line products (opening_prices products) grid (opening_posted products) increments k)
opening_between products grid increments k below =
    let no_pair : PricePair = record { start = 0; clock = 0 } in
    let pair : prices_at (opening_prices products) k
    ≡ record { start = (get_or products k no_product).opening; clock = (get_or products k no_product).opening } =
    get_or-map _ products k no_product no_pair below in
    let price : get_or (opening_posted products) k 0 ≡ (get_or products k no_product).opening =
    get_or-map _ products k no_product 0 below in
    record {
      from_start = omega (arith, ap (λ p. p.start) pair, price);
      to_clock = omega (arith, ap (λ p. p.clock) pair, price);
    }

either : (test : Bool) (price clock start : ℕ) → price ≡ clock → price ≡ start → price ≡ (if test then clock else start)
either true price clock start top low = top
either false price clock start top low = low

-- In round 1 the least posted prices are the posted prices.
pub opening_least : (products listed : List Product) (prices : List PricePair) (grid : List (List ℕ)) (posted : List ℕ)
    → listed ≡ products → prices ≡ opening_prices products → posted
    ≡ map (least_price listed prices grid) (range_with_len 0 (length listed)) → posted ≡ opening_posted products
opening_least products listed prices grid posted same opening are =
    let no_pair : PricePair = record { start = 0; clock = 0 } in
    let by = λ (list : List Product) (pairs : List PricePair). map (least_price list pairs grid)
    (range_with_len 0 (length list)) in
    are ∙ ap (λ (list : List Product). by list prices) same ∙ ap (by products) opening
    ∙ sym (fill_by_all (least_price products (opening_prices products) grid) (opening_posted products)
    (length products) 0 (length-map products _) (λ k below.
    let pair : prices_at (opening_prices products) k
    ≡ record { start = (get_or products k no_product).opening; clock = (get_or products k no_product).opening } =
    get_or-map _ products k no_product no_pair below in
    let price : get_or (opening_posted products) k 0 ≡ (get_or products k no_product).opening =
    get_or-map _ products k no_product 0 below in
    either (has_excess products grid k) (get_or (opening_posted products) k 0)
    (prices_at (opening_prices products) k).clock (prices_at (opening_prices products) k).start
    (price ∙ sym (ap (λ (p : PricePair). p.clock) pair)) (price ∙ sym (ap (λ (p : PricePair). p.start) pair))))

-- The input of round 1's posting fits together.
pub first_round_end : (products : List Product) (grid : List (List ℕ)) (increments : Increments) → All IsProduct
    products → All (λ row. length row ≡ length products) grid → AreIncrements (length products) increments
    → IsRoundEnd products (opening_prices products) grid (opening_posted products) increments
first_round_end products grid increments limits rows are = record {
  limits = limits;
  prices_each = length-map products _;
  rows = rows;
  posted_each = length-map products _;
  increments_each = are;
  between = λ k below. opening_between products grid increments k below;
}

-- Opening prices are one dollar at least.
pub opening_dollars : (products : List Product) → All IsProduct products
    → All (λ price. 1 ≤ price) (opening_posted products)
opening_dollars products limits =
    All-map (λ price. 1 ≤ price) (λ product. product.opening) products
    (All-weaker IsProduct (λ product. 1 ≤ product.opening) (λ product is. is.opening.0) products limits)
