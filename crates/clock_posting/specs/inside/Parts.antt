-- Parts of a posting that proofs and private functions name.
--     first_at_limit products increments posted      the first product whose price is too high
--     lines_of_round products prices grid posted increments      the lines of the round results
--     IsPriceRange pair      the start-of-round price is not above the clock price
--     least_price products prices grid product      the least that the posted price can be
--     applied_prices changes left product      prices of its reductions that were applied
use Rattle.std.specs.Prelude.{ℕ, ◌≤◌, List, Option, is_none, if◌then◌else◌, length, map, filter}
use Rattle.std.specs.Prelude.{zip}
use Rattle.std.specs.List.{range_with_len, position_from}
use Rattle.clock_terms.specs.declared.increments.Increments.{Increments}
use Rattle.clock_terms.specs.declared.setup.Product.{Product}
use Rattle.clock_terms.specs.declared.prices.PricePair.{PricePair}
use Rattle.clock_terms.specs.Prices.{prices_at}
use Rattle.clock_terms.specs.declared.change.Change.{Change}
use Rattle.clock_posting.specs.declared.sheet.Line.{Line}
use Rattle.clock_posting.specs.Posting.{has_excess, next_clock, sheet_line}
use Rattle.clock_posting.specs.PostedPrice.{is_applied_reduction}

-- The first product whose next clock price would be too high.
abbrev pub first_at_limit : List Product → Increments → List ℕ → Option ℕ
first_at_limit products increments posted = position_from (λ product.
    is_none (next_clock products increments posted product)) 0 (range_with_len 0 (length products))

-- The lines of the round results, one for each product.
abbrev pub lines_of_round : List Product → List PricePair → List (List ℕ) → List ℕ
    → Increments → List Line
lines_of_round products prices grid posted increments =
    map (sheet_line products prices grid posted increments) (range_with_len 0 (length products))

-- The least that a product's posted price can be: the clock price with excess demand, the
-- start-of-round price without.
abbrev pub least_price : List Product → List PricePair → List (List ℕ) → ℕ → ℕ
least_price products prices grid product = if has_excess products grid product
    then (prices_at prices product).clock else (prices_at prices product).start

-- The prices of a product's reductions that were applied at least in part.
abbrev pub applied_prices : List Change → List ℕ → ℕ → List ℕ
applied_prices changes left product = map (λ line. line.0.price)
    (filter (λ line. is_applied_reduction product line.0 line.1) (zip changes left))

-- The start-of-round price is not above the clock price.
abbrev pub IsPriceRange : PricePair → Type 0
IsPriceRange pair = pair.start ≤ pair.clock
