-- The lines that `prices` prints: a product's name, its opening price, and the clock price of round
-- 2 (own format).
--     price_lines increment products     the lines
use Rattle.std.specs.Prelude.{ℕ, List, ◌++◌, codes, decimal}
use Rattle.std.specs.List.{flat_map}
use Rattle.clock_device.specs.Decimal.{number_or_dash}
use Rattle.clock_money.specs.Price.{raise}
use Rattle.clock_terms.specs.declared.setup.Product.{Product}

-- NAME OPENING CLOCK, separated by spaces; CLOCK is a dash if it would be too high
abbrev pub price_line : ℕ → Product → List ℕ
price_line increment product = product.name ++ codes " " ++ decimal product.opening ++ codes " "
    ++ number_or_dash (raise product.opening increment product.granule) ++ codes "\n"

-- a line for each product
abbrev pub price_lines : ℕ → List Product → List ℕ
price_lines increment products = flat_map (price_line increment) products
