-- The posted prices of a round after round 1.
--     posted_prices products prices changes left grid      the posted price of each product
--     IsWithinPrices prices change      the request is at a price of this round for its product
use Rattle.std.specs.Prelude.{ℕ, ◌≤◌, ◌<◌, List, [], ◌∷◌, Bool, true, false, ◌&&◌, ◌==◌, nat_lt}
use Rattle.std.specs.Prelude.{if◌then◌else◌, length, map, max, filter, fold, zip}
use Rattle.std.specs.List.{range_with_len}
use Rattle.clock_terms.specs.declared.setup.Product.{Product}
use Rattle.clock_terms.specs.declared.prices.PricePair.{PricePair}
use Rattle.clock_terms.specs.Prices.{prices_at}
use Rattle.clock_terms.specs.declared.change.Change.{Change}
use Rattle.clock_terms.specs.declared.change.Kind.{Kind}
use Rattle.clock_terms.specs.declared.change.Kind.TheVariants.{Increase, Reduction}
use Rattle.clock_posting.specs.Posting.{has_excess}

abbrev pub is_reduction : Kind → Bool
is_reduction Reduction = true
is_reduction Increase = false

-- A reduction of this product that was applied at least in part: less is left than it asked for.
abbrev pub is_applied_reduction : ℕ → Change → ℕ → Bool
is_applied_reduction product change left =
    is_reduction change.kind && (change.product == product) && nat_lt left change.amount

-- The highest of these prices, or another price if there are none.
abbrev pub highest_or : ℕ → List ℕ → ℕ
highest_or other [] = other
highest_or other (price ∷ prices) = fold max price prices

-- The clock price with excess demand. Without, the highest price of a reduction that was applied at
-- least in part, or the start-of-round price if there is none, which is our own rule.
abbrev pub posted_price : List Product → List PricePair → List Change → List ℕ
    → List (List ℕ) → ℕ → ℕ
posted_price products prices changes left grid product = if has_excess products grid product then
    (prices_at prices product).clock else highest_or (prices_at prices product).start (map (λ line.
    line.0.price) (filter (λ line. is_applied_reduction product line.0 line.1) (zip changes left)))

abbrev pub posted_prices : List Product → List PricePair → List Change → List ℕ
    → List (List ℕ) → List ℕ
posted_prices products prices changes left grid =
    map (posted_price products prices changes left grid) (range_with_len 0 (length products))

-- The request is for a product that has prices, and its price is from the start-of-round price to
-- the clock price.
pub record IsWithinPrices (prices : List PricePair) (change : Change) : Type 0 where
  pub product : change.product < length prices
  pub from_start : (prices_at prices change.product).start ≤ change.price
  pub to_clock : change.price ≤ (prices_at prices change.product).clock
