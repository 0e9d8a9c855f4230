-- Proves that the bidder results have the processed demands of the round.
use Rattle.std.proofs.Common.{◌≡◌, ℕ, List, [], refl, sym, ◌∙◌, length}
use Rattle.std.specs.List.{range_with_len}
use Rattle.std.proofs.lemmas.List.FromFn.{fill_by_all}
use Rattle.std.proofs.lemmas.Simd.{map-map}
use Rattle.clock_terms.specs.Limits.{PublicSetup}
use Rattle.clock_terms.specs.Demands.{row_of}
use Rattle.clock_closing.specs.declared.closed_round.Slip.{Slip}
use Rattle.clock_closing.specs.OpenRound.{OpenRound, holding_at}
use Rattle.clock_closing.specs.Closing.{slip_after, slips_after}
use Rattle.clock_closing.specs.Results.{result_demands}

-- The demands in the bidder results are those of the round.
pub slips_demands : (setup : PublicSetup) (now : OpenRound) (grid : List (List ℕ)) → length grid ≡ length now.holdings →
    grid ≡ result_demands (slips_after setup now grid)
slips_demands setup now grid many = fill_by_all (row_of grid) grid (length now.holdings) [] many (λ bidder lt. refl)
    ∙ sym (map-map (λ (slip : Slip). slip.demands) (λ (bidder : ℕ). slip_after setup now.public_state.round
    (holding_at now.holdings bidder).eligibility (row_of grid bidder)) (range_with_len 0 (length now.holdings)))
