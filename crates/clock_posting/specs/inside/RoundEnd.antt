-- The input of a posting.
--     HasClocks products increments posted prices      these clock prices are the next ones
--     IsRoundEnd products prices grid posted increments      the lists of the input fit together
--     FitsTogether end, IsPostingOf end, next_of end, ..      these for the input as a struct
use Rattle.std.specs.Prelude.{◌≡◌, ℕ, ◌<◌, List, Option, Some, length, map, All}
use Rattle.std.specs.List.{range_with_len}
use Rattle.clock_terms.specs.declared.increments.Increments.{Increments}
use Rattle.clock_terms.specs.declared.setup.Product.{Product}
use Rattle.clock_terms.specs.declared.prices.PricePair.{PricePair}
use Rattle.clock_terms.specs.Limits.{IsProduct}
use Rattle.clock_terms.specs.Increments.{AreIncrements}
use Rattle.clock_posting.specs.declared.posting.Posting.{Posting}
use Rattle.clock_posting.specs.declared.posting.RoundEnd.{RoundEnd}
use Rattle.clock_posting.specs.declared.sheet.Line.{Line}
use Rattle.clock_posting.specs.Posting.{next_clock, sheet_line, price_limit_fault, prices_after}
use Rattle.clock_posting.specs.Posting.{IsBetween, IsPosting}
use Rattle.clock_posting.specs.inside.Parts.{lines_of_round}

-- The products are those of a set-up. For each there are prices, each bidder's demand, a posted
-- price, and an increment. Posted prices are from start-of-round price to clock price.
pub record IsRoundEnd (products : List Product) (prices : List PricePair) (grid : List (List ℕ))
    (posted : List ℕ) (increments : Increments) : Type 0 where
  pub limits : All IsProduct products
  pub prices_each : length prices ≡ length products
  pub rows : All (λ row. length row ≡ length products) grid
  pub posted_each : length posted ≡ length products
  pub increments_each : AreIncrements (length products) increments
  pub between : (product : ℕ) → product < length products
      → IsBetween (sheet_line products prices grid posted increments product)

-- The clock prices of these pairs are the next clock prices of the products.
abbrev pub HasClocks : List Product → Increments → List ℕ → List PricePair → Type 0
HasClocks products increments posted prices = map (next_clock products increments posted)
    (range_with_len 0 (length products)) ≡ map (λ pair. Some pair.clock) prices

-- The lists of a posting's input fit together.
abbrev pub FitsTogether : RoundEnd → Type 0
FitsTogether end =
    IsRoundEnd end.products.now end.prices.now end.grid.now end.posted.now end.increments.now

-- The clock prices of these pairs are the next ones of this input.
abbrev pub HasClocksOf : RoundEnd → List PricePair → Type 0
HasClocksOf end = HasClocks end.products.now end.increments.now end.posted.now

-- The posting is that of this input.
abbrev pub IsPostingOf : RoundEnd → Posting → Type 0
IsPostingOf end = IsPosting end.round end.products.now end.prices.now end.grid.now
    end.posted.now end.increments.now

-- The prices of the next round, or `None` if the auction has ended.
abbrev pub next_of : RoundEnd → Option (List PricePair)
next_of end = prices_after end.products.now end.grid.now end.posted.now end.increments.now

-- The first product whose next clock price would be too high.
abbrev pub limit_of : RoundEnd → Option ℕ
limit_of end = price_limit_fault end.products.now end.grid.now end.posted.now end.increments.now

-- The line of a product.
abbrev pub line_of : RoundEnd → ℕ → Line
line_of end =
    sheet_line end.products.now end.prices.now end.grid.now end.posted.now end.increments.now

-- The lines of the round results.
abbrev pub lines_of : RoundEnd → List Line
lines_of end =
    lines_of_round end.products.now end.prices.now end.grid.now end.posted.now end.increments.now
