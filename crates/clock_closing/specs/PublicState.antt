-- The state of an auction that everyone knows.
use Rattle.std.specs.Prelude.{ℕ, List, Bool}
use Rattle.clock_terms.specs.declared.prices.PricePair.{PricePair}

-- Whether the auction has ended, the current round, and each product's prices in it.
pub record PublicState : Type 0 where
  pub ended : Bool
  pub round : ℕ
  pub prices : List PricePair
