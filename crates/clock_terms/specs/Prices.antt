-- The prices of a round: a start-of-round price and a clock price for each product.
--     opening_prices products      the prices of round 1
--     prices_at prices product      the prices of a product
use Rattle.std.specs.Prelude.{ℕ, List, map, slice_index_or}
use Rattle.clock_terms.specs.declared.setup.Product.{Product}
use Rattle.clock_terms.specs.declared.prices.PricePair.{PricePair}

-- In round 1, both prices of a product are its opening price.
abbrev pub opening_prices : List Product → List PricePair
opening_prices products =
    map (λ product. record { start = product.opening; clock = product.opening }) products

abbrev pub prices_at : List PricePair → ℕ → PricePair
prices_at prices product = slice_index_or prices product (record { start = 0; clock = 0 })
