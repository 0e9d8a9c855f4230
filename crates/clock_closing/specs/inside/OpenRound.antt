-- All bidders' eligibilities and demands before a round, as two lists.
--     eligibilities_of now, grid_of now      these lists
use Rattle.std.specs.Prelude.{ℕ, List, map}
use Rattle.clock_closing.specs.OpenRound.{OpenRound}

-- The eligibilities before the round.
abbrev pub eligibilities_of : OpenRound → List ℕ
eligibilities_of now = map (λ holding. holding.eligibility) now.holdings

-- The processed demands before the round, a row for each bidder.
abbrev pub grid_of : OpenRound → List (List ℕ)
grid_of now = map (λ holding. holding.demands) now.holdings
