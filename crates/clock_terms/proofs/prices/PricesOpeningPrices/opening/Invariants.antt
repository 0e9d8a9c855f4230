use Rattle.std.proofs.Common.{◌≡◌, ◌+◌, ◌≤◌, length, take}
use Rattle.clock_terms.specs.Prices.{opening_prices}
use Rattle.clock_terms.proofs.prices.PricesOpeningPrices.opening.Given as goal

-- the pairs of the products so far, and capacity for the others
abbrev pub invariant-loop-product : goal.invariant-loop-product
invariant-loop-product l = record {
  so_far : l.prices.items ≡ opening_prices (take l.product-index l.products);
  room : length l.products ≤ l.product-index + l.prices.room;
}
