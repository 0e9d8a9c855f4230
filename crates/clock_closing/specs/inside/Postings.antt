-- What the steps of a closing produce.
--     AreRequests now list      the list has all bidders' requests, in any order
--     posted setup now increments result      the closed round, or a price that is too high
--     first_posted round increments, posted_now round increments ties      for round 1; for any
--     AreResults closing results      they are the results of an accepted closing
--     ComesTo closing result      the results of a closing, its first fault, or out of memory
--     Posts round increments result posting      the posting of a result, or why there is none
--     IsRoundOf round demands posting result      the results of a posting of these demands
use Rattle.std.specs.Prelude.{◌≡◌, ℕ, List, flat_map, IsPermutation, Result, Ok, MatchResult}
use Rattle.clock_terms.specs.declared.increments.Increments.{Increments}
use Rattle.clock_terms.specs.Limits.{PublicSetup, public_setup}
use Rattle.clock_terms.specs.Faults.{first_fault, unless, IsFirstFault, IsRefusal}
use Rattle.clock_terms.specs.declared.change.Change.{Change}
use Rattle.clock_order.specs.declared.ties.Tie.{Tie}
use Rattle.clock_closing.specs.declared.fault.CloseFault.{CloseFault}
use Rattle.clock_closing.specs.declared.closed_round.Results.{Results}
use Rattle.clock_closing.specs.OpenRound.{OpenRound, OpenRoundFields, bidder_numbers}
use Rattle.clock_posting.specs.declared.posting.Posting.{Posting}
use Rattle.clock_posting.specs.declared.posting.PostFault.{PostFault}
use Rattle.clock_posting.specs.declared.posting.PostFault.TheVariants as post_faults
use Rattle.clock_posting.specs.Posting.{IsPosting, IsConsistent, post_fault, price_limit_fault}
use Rattle.clock_closing.specs.declared.fault.CloseFault.TheVariants as close_faults
use Rattle.clock_closing.specs.Faults.{fault_check}
use Rattle.clock_closing.specs.Closing.{ClosedRound, RoundResult, requests_by, first_result}
use Rattle.clock_closing.specs.Closing.{round_result, closed_round}
use Rattle.clock_closing.specs.Results.{AreConsistent}

-- The list has all bidders' requests, in any order.
abbrev pub AreRequests : OpenRound → List Change → Type 0
AreRequests now list = IsPermutation (flat_map (requests_by now) (bidder_numbers now)) list

-- The round that these demands and posted prices give, or the first product whose next clock price
-- would be too high.
abbrev pub posted : PublicSetup → OpenRound → Increments → RoundResult
    → Result ClosedRound CloseFault
posted setup now increments result = unless (first_fault (fault_check close_faults.PriceLimit
    (price_limit_fault setup.products result.grid result.posted increments)))
    (closed_round setup now increments result)

-- The round that the demands and posted prices of round 1 give, or its fault.
abbrev pub first_posted : OpenRoundFields → Increments → Result ClosedRound CloseFault
first_posted round increments = posted (public_setup round.setup) round.before increments
    (first_result round.setup.products round.before)

-- The round that the demands and posted prices of the current round give, or its fault.
abbrev pub posted_now : OpenRoundFields → Increments → List Tie → Result ClosedRound CloseFault
posted_now round increments ties = posted (public_setup round.setup) round.before increments
    (round_result round.setup.products round.before ties)

-- The closing is accepted, adds this round, and the parts of its results agree.
pub record AreResults (closing : Result ClosedRound CloseFault) (results : Results) : Type 0 where
  pub closes : closing ≡ Ok results.closed
  pub consistent : AreConsistent results

-- The result is that of the closing: its results, its first fault, or out of memory.
abbrev pub ComesTo : Result ClosedRound CloseFault → Result Results CloseFault → Type 0
ComesTo closing result =
    MatchResult result (AreResults closing) (IsRefusal close_faults.NoMemory closing)

-- The result is the posting of these demands and prices, the first product whose next clock price
-- would be too high, or out of memory.
abbrev pub Posts : OpenRoundFields → Increments → RoundResult → Result Posting PostFault → Type 0
Posts round increments result posting = MatchResult posting (λ one.
    IsPosting round.before.public_state.round round.setup.products round.before.public_state.prices
    result.grid result.posted increments one × IsConsistent one) (IsFirstFault post_faults.NoMemory
    (post_fault (price_limit_fault round.setup.products result.grid result.posted increments)))

-- Whatever increments and prices a posting of these demands used, the results are the round that
-- they give.
abbrev pub IsRoundOf : OpenRoundFields → List (List ℕ) → Result Posting PostFault
    → Result Results CloseFault → Type 0
IsRoundOf round demands posting results = (increments : Increments) (list : List ℕ)
    → Posts round increments (record { grid = demands; posted = list }) posting
    → ComesTo (posted (public_setup round.setup) round.before increments
    (record { grid = demands; posted = list })) results
