-- The law is raises_to_the_least.
use Rattle.clock_money.proofs.Raising.{raises_to_the_least}
use Rattle.clock_money.proofs.price.law_of_clock_prices.Goals as goal

pub returns : goal.returns
returns c = raises_to_the_least
