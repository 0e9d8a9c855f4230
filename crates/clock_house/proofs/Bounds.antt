-- Proves the bound on the number of rounds: each round raises the sum of the prices, and that sum is bounded.
use Rattle.std.proofs.Common.{ℕ, zero, suc, ◌*◌, ◌≤◌, List, arith, length}
use Rattle.std.specs.Prelude.{sum_by}
use Rattle.std.proofs.lemmas.List.Sums.{sum_by-le}
use Rattle.clock_terms.specs.declared.setup.Product.{Product}
use Rattle.clock_terms.specs.declared.prices.PricePair.{PricePair}
use Rattle.clock_house.specs.PublicState.{PublicState}
use Rattle.clock_terms.specs.Limits.{most_products}
use Rattle.clock_house.specs.Laws.{HasSoundPrices, most_rounds}

by_round : (round : ℕ) → (2 ≤ round → round ≤ most_rounds) → round ≤ most_rounds
by_round zero bound = omega arith
by_round (suc zero) bound = omega arith
by_round (suc (suc n)) bound = bound (omega arith)

-- The number of the current round is bounded by the sum of the highest prices.
pub round_bounded : (products : List Product) (now : PublicState) → length products ≤ most_products
    → HasSoundPrices products now → now.round ≤ most_rounds
round_bounded products now few priced =
    let starts : sum_by (λ (pair : PricePair). pair.start) now.prices ≤ length now.prices * 1000000000000 =
    sum_by-le (λ (pair : PricePair). pair.start) 1000000000000 now.prices priced.highest in
    let many : length now.prices * 1000000000000 ≤ 4096000000000000 = omega (arith, few, priced.pairs) in
    by_round now.round (λ later. omega (arith, priced.bounded later, starts, many))
