-- Each bidder's eligibility and processed demands before a round.
--     first_holding products row, holding_after slip      before round 1; after a closed round
--     holdings_of eligibilities demands      those of all bidders, from a list of each
use Rattle.std.specs.Prelude.{ℕ, List, length, map, replicate, zip}
use Rattle.clock_terms.specs.declared.setup.Product.{Product}
use Rattle.clock_terms.specs.declared.setup.Bidder.{Bidder}
pub use Rattle.clock_bids.specs.Holding.{Holding}
use Rattle.clock_closing.specs.declared.closed_round.Slip.{Slip}

-- Before round 1, a bidder has its initial eligibility, and processed demands of 0.
abbrev pub first_holding : List Product → Bidder → Holding
first_holding products row =
    record { eligibility = row.eligibility; demands = replicate (length products) 0 }

-- After a round, a bidder has the next eligibility and the processed demands of its bidder results.
abbrev pub holding_after : Slip → Holding
holding_after slip = record { eligibility = slip.eligibility; demands = slip.demands }

-- Each bidder has the eligibility and the row of demands at its index.
abbrev pub holdings_of : List ℕ → List (List ℕ) → List Holding
holdings_of eligibilities demands =
    map (λ own. record { eligibility = own.0; demands = own.1 }) (zip eligibilities demands)
