-- What a house stores in addition to what contracts see of it.
--     AgreesWithRounds house ended round prices eligibilities demands      it agrees with
--         the closed rounds
use Rattle.std.specs.Prelude.{◌≡◌, ℕ, List, Bool, false}
use Rattle.clock_terms.specs.declared.prices.PricePair.{PricePair}
use Rattle.clock_terms.specs.Limits.{IsSetup}
use Rattle.clock_closing.specs.inside.OpenRound.{eligibilities_of, grid_of}
use Rattle.clock_house.specs.Command.{Command}
use Rattle.clock_house.specs.House.{HouseFields, StandsFor, state_in}
use Rattle.clock_house.specs.inside.OpenRounds.{open_round_in}

-- The house stands for some list of commands. What it stores for quick reading is what its closed
-- rounds say. After the end, the stored prices mean nothing.
pub record AgreesWithRounds (house : HouseFields) (ended : Bool) (round : ℕ)
    (prices : List PricePair) (eligibilities : List ℕ) (demands : List (List ℕ)) : Type 0 where
  pub limits : IsSetup house.setup
  pub commands : List Command
  pub stands : StandsFor commands house
  pub ended_is : ended ≡ (state_in house).ended
  pub round_is : round ≡ (state_in house).round
  pub prices_are : ended ≡ false → prices ≡ (state_in house).prices
  pub eligibilities_are : eligibilities ≡ eligibilities_of (open_round_in house)
  pub demands_are : demands ≡ grid_of (open_round_in house)
