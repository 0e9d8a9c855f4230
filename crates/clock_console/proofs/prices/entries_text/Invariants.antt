use Rattle.std.proofs.Common.{◌≡◌, ◌++◌, drop}
use Rattle.clock_console.specs.PriceLines.{price_lines}
use Rattle.clock_console.proofs.prices.entries_text.Given as goal

-- the lines so far, followed by those of the products left, are the whole text
abbrev pub invariant-loop-product : goal.invariant-loop-product
invariant-loop-product l =
    l.text ++ price_lines l.increment (drop l.product-index l.products) ≡ price_lines l.increment l.products
