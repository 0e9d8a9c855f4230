-- What one bidder has before a round, and the limit on its requested activity. The activity limit
-- is the FCC's for Auction 105. Rounding it down, and that it is the eligibility in round 1,
-- are our own rules.
--     Holding      an eligibility, and a processed demand for each product
--     holding_of own      the values of an argument of the program
--     activity_limit setup round eligibility      the most requested activity
use Rattle.std.specs.Prelude.{ℕ, ◌*◌, ◌/◌, ◌==◌, if◌then◌else◌, List}
use Rattle.clock_terms.specs.Limits.{PublicSetup}
use Rattle.clock_bids.specs.declared.sheet.Own.{Own}

-- an eligibility in bidding units, and the processed demand for each product in blocks
pub record Holding : Type 0 where
  pub eligibility : ℕ
  pub demands : List ℕ

-- the eligibility and the demands in an argument of the program
abbrev pub holding_of : Own → Holding
holding_of own = record { eligibility = own.eligibility; demands = own.demands.now }

-- The most requested activity: in round 1 the eligibility, from round 2 the set-up's percentage of
-- it, rounded down. With an eligibility of 8 and a limit of 120 percent, it is 9.
abbrev pub activity_limit : PublicSetup → ℕ → ℕ → ℕ
activity_limit setup round eligibility =
    if round == 1 then eligibility else eligibility * setup.limit / 100
