-- Whole rounds, computed from lists of commands.
use Rattle.std.specs.Prelude.{◌≡◌, ℕ, List, [], ◌∷◌, Bool, true, false, Option, Some, None, Err, refl, reverse, map}
use Rattle.std.specs.Prelude.{codes}
use Rattle.clock_terms.specs.declared.increments.Increments.{Increments}
use Rattle.clock_terms.specs.declared.increments.Increments.TheVariants.{Single, PerProduct}
use Rattle.clock_terms.specs.Limits.{SetupFields, public_setup}
use Rattle.clock_terms.proofs.Examples.{one_product, two_products, granules_and_increments, activity_limit}
use Rattle.clock_bids.specs.declared.sheet.Bid.{Bid}
use Rattle.clock_bids.specs.declared.sheet.BidFault.TheVariants.{OverCap, OverActivity}
use Rattle.clock_order.specs.declared.ties.Tie.{Tie}
use Rattle.clock_posting.specs.declared.sheet.Line.{Line}
use Rattle.clock_posting.specs.declared.sheet.RoundSheet.{RoundSheet}
use Rattle.clock_house.specs.declared.fault.PutFault.{PutFault}
use Rattle.clock_house.specs.declared.fault.PutFault.TheVariants as put_faults
use Rattle.clock_closing.specs.declared.fault.CloseFault.TheVariants as close_faults
use Rattle.clock_house.specs.Command.{Command, put, close}
use Rattle.clock_house.specs.PublicState.{put_fault}
use Rattle.clock_closing.specs.Closing.{settlement, requests}
use Rattle.clock_house.specs.History.{history, Auction, ClosedRound, closing_of, public_state, holding, sheet_in_force}
use Rattle.clock_house.specs.inside.OpenRounds.{open_round}

abbrev bid : ℕ → ℕ → ℕ → Bid
bid product quantity price = record { product = product; quantity = quantity; price = price }

abbrev tie : ℕ → ℕ → ℕ → Tie
tie bidder product number = record { bidder = bidder; product = product; number = number }

-- The auction after commands in the order in which they come.
abbrev run : SetupFields → List Command → Auction
run setup commands = history setup (reverse commands)

abbrev no_round : ClosedRound
no_round = record { sheet = record { round = 0; ended = false; lines = [] }; slips = [] }

abbrev newest : List ClosedRound → ClosedRound
newest [] = no_round
newest (round ∷ rounds) = round

-- The newest round results, as in a report: the number, whether it is the last, and a line of start, clock, posted,
-- demand, and next for each product.
abbrev line : ℕ → ℕ → ℕ → Option ℕ → Option ℕ → Line
line start clock posted demand next =
    record { start = start; clock = clock; posted = posted; demand = demand; next = next }

abbrev shown : ClosedRound → RoundSheet × List (List ℕ) × List ℕ
shown round = (round.sheet, map (λ slip. slip.demands) round.slips, map (λ slip. slip.eligibility) round.slips)

abbrev Newest : Auction → ℕ → Bool → List Line → List (List ℕ) → List ℕ → Type 0
Newest auction round ended lines demands eligibilities =
    shown (newest auction.closed) ≡ (record { round = round; ended = ended; lines = lines }, demands, eligibilities)

-- In round 1, X bids for 2 blocks and Y for 1.
abbrev first_round : List Command
first_round = put 0 1 (bid 0 2 100 ∷ []) ∷ put 1 1 (bid 0 1 100 ∷ []) ∷ close 1 (Single 10) [] ∷ []

first_round_goes_on : Newest (run one_product first_round) 1 false (line 100 100 100 (Some 3) (Some 110) ∷ [])
    ((2 ∷ []) ∷ (1 ∷ []) ∷ []) (3 ∷ 2 ∷ [])
first_round_goes_on = refl

abbrev append : List Command → List Command → List Command
append [] more = more
append (command ∷ commands) more = command ∷ append commands more

drop_without_room_keeps_demand : Newest (run one_product (append first_round (put 0 2 (bid 0 0 103 ∷ [])
    ∷ close 2 (Single 10) [] ∷ []))) 2 true (line 100 110 100 None None ∷ []) ((2 ∷ []) ∷ (0 ∷ []) ∷ []) (3 ∷ 0 ∷ [])
drop_without_room_keeps_demand = refl

drop_applied_in_part : Newest (run one_product
    (append first_round (put 0 2 (bid 0 0 103 ∷ []) ∷ put 1 2 (bid 0 1 110 ∷ []) ∷ close 2 (Single 10) [] ∷ []))) 2 true
    (line 100 110 103 None None ∷ []) ((1 ∷ []) ∷ (1 ∷ []) ∷ []) (2 ∷ 2 ∷ [])
drop_applied_in_part = refl

lower_tie_number_first : Newest (run one_product (append first_round (put 0 2 (bid 0 1 104 ∷ [])
    ∷ put 1 2 (bid 0 0 104 ∷ []) ∷ close 2 (Single 10) (tie 0 0 9 ∷ tie 1 0 3 ∷ []) ∷ []))) 2 true
    (line 100 110 104 None None ∷ []) ((2 ∷ []) ∷ (0 ∷ []) ∷ []) (3 ∷ 0 ∷ [])
lower_tie_number_first = refl

lower_bidder_first : Newest (run one_product
    (append first_round (put 0 2 (bid 0 1 104 ∷ []) ∷ put 1 2 (bid 0 0 104 ∷ []) ∷ close 2 (Single 10) [] ∷ []))) 2 true
    (line 100 110 104 None None ∷ []) ((1 ∷ []) ∷ (1 ∷ []) ∷ []) (2 ∷ 2 ∷ [])
lower_bidder_first = refl

-- X bids for 2 of B, Y for 2 of A, Z for 1 of B.
abbrev first_of_two : List Command
first_of_two =
    put 0 1 (bid 1 2 100 ∷ []) ∷ put 1 1 (bid 0 2 100 ∷ []) ∷ put 2 1 (bid 1 1 100 ∷ []) ∷ close 1 (Single 10) [] ∷ []

totals_shown_only_above_supply : Newest (run two_products first_of_two) 1 false (line 100 100 100 None (Some 110)
    ∷ line 100 100 100 (Some 3) (Some 110) ∷ []) ((0 ∷ 2 ∷ []) ∷ (2 ∷ 0 ∷ []) ∷ (0 ∷ 1 ∷ []) ∷ []) (2 ∷ 2 ∷ 1 ∷ [])
totals_shown_only_above_supply = refl

abbrev second_of_two : List Command
second_of_two = put 1 2 (bid 0 1 102 ∷ []) ∷ put 0 2 (bid 0 1 104 ∷ bid 1 1 106 ∷ []) ∷ put 2 2 (bid 1 1 110 ∷ []) ∷ []

freed_units_let_an_increase_in : Newest (run two_products
    (append first_of_two (append second_of_two (close 2 (Single 10) [] ∷ [])))) 2 true (line 100 110 102 None None
    ∷ line 100 110 106 None None ∷ []) ((1 ∷ 1 ∷ []) ∷ (1 ∷ 0 ∷ []) ∷ (0 ∷ 1 ∷ []) ∷ []) (2 ∷ 1 ∷ 1 ∷ [])
freed_units_let_an_increase_in = refl

three_applications : let auction = run two_products (append first_of_two second_of_two) in
    (settlement two_products.products (open_round two_products auction)
    (requests (open_round two_products auction) [])).applied ≡ 3
three_applications = refl

only_excess_demand_raises_the_price : Newest (run two_products (put 0 1 (bid 1 2 100 ∷ []) ∷ put 1 1 (bid 0 1 100 ∷ [])
    ∷ put 2 1 (bid 1 1 100 ∷ []) ∷ close 1 (Single 10) [] ∷ put 0 2 (bid 1 2 110 ∷ []) ∷ put 2 2 (bid 1 1 110 ∷ [])
    ∷ close 2 (Single 10) [] ∷ [])) 2 false (line 100 110 100 None (Some 110) ∷ line 100 110 110 (Some 3) (Some 121)
    ∷ []) ((0 ∷ 2 ∷ []) ∷ (1 ∷ 0 ∷ []) ∷ (0 ∷ 1 ∷ []) ∷ []) (2 ∷ 1 ∷ 1 ∷ [])
only_excess_demand_raises_the_price = refl

no_sheets_drop_to_supply : Newest (run one_product (append first_round (close 2 (Single 10) [] ∷ []))) 2 true
    (line 100 110 100 None None ∷ []) ((1 ∷ []) ∷ (1 ∷ []) ∷ []) (2 ∷ 2 ∷ [])
no_sheets_drop_to_supply = refl

no_sheets : Newest (run one_product (close 1 (Single 10) [] ∷ [])) 1 true (line 100 100 100 None None ∷ [])
    ((0 ∷ []) ∷ (0 ∷ []) ∷ []) (0 ∷ 0 ∷ [])
no_sheets = refl

second_close : closing_of one_product (run one_product (close 1 (Single 10) [] ∷ [])) 1 (Single 10) []
    ≡ Err close_faults.Ended
second_close = refl

-- Refused sheets and closings.
sheet_for_another_round : put_fault (public_setup one_product)
    (public_state one_product.products (run one_product first_round).closed)
    (holding one_product (run one_product first_round).closed 0) 1 (bid 0 2 110 ∷ []) ≡ Some (put_faults.WrongRound 2)
sheet_for_another_round = refl

sheet_after_the_end : put_fault (public_setup one_product) (public_state one_product.products
    (run one_product (append first_round (close 2 (Single 10) [] ∷ []))).closed) (holding one_product
    (run one_product (append first_round (close 2 (Single 10) [] ∷ []))).closed 0) 2 [] ≡ Some put_faults.Ended
sheet_after_the_end = refl

abbrev at_highest : SetupFields
at_highest = record one_product {
  products = record { name = codes "A"; units = 1; supply = 2; cap = 2; opening = 1000000000000; granule = 1 } ∷ [];
}

abbrev high : ℕ → List Command
high quantity = put 0 1 (bid 0 quantity 1000000000000 ∷ []) ∷ put 1 1 (bid 0 1 1000000000000 ∷ []) ∷ []

next_clock_price_too_high : closing_of at_highest (run at_highest (high 2)) 1 (Single 1) []
    ≡ Err (close_faults.PriceLimit 0)
next_clock_price_too_high = refl

refused_closing_keeps_sheets : sheet_in_force at_highest
    (run at_highest (append (high 2) (close 1 (Single 1) [] ∷ []))) 0 ≡ Some (bid 0 2 1000000000000 ∷ [])
refused_closing_keeps_sheets = refl

no_limit_at_the_end : (newest (run at_highest (append (high 1) (close 1 (Single 1) [] ∷ []))).closed).sheet.ended ≡ true
no_limit_at_the_end = refl

-- In round 3, X asks to give up one block at 115 and one at 120, and Y maintains its demand.
third_round : Newest (run one_product (append first_round (put 0 2 (bid 0 2 110 ∷ []) ∷ put 1 2 (bid 0 1 110 ∷ [])
    ∷ close 2 (Single 10) [] ∷ put 0 3 (bid 0 1 115 ∷ bid 0 0 120 ∷ []) ∷ put 1 3 (bid 0 1 121 ∷ [])
    ∷ close 3 (Single 10) [] ∷ []))) 3 true (line 110 121 115 None None ∷ []) ((1 ∷ []) ∷ (1 ∷ []) ∷ []) (2 ∷ 2 ∷ [])
third_round = refl

quantity_over_the_cap : put_fault (public_setup one_product) (public_state one_product.products [])
    (holding one_product [] 0) 1 (bid 0 3 100 ∷ []) ≡ Some (put_faults.Bid (OverCap 0))
quantity_over_the_cap = refl

increment_of_0 : closing_of one_product (run one_product []) 1 (Single 0) [] ≡ Err close_faults.Increment
increment_of_0 = refl

increment_of_51 : closing_of one_product (run one_product []) 1 (Single 51) [] ≡ Err close_faults.Increment
increment_of_51 = refl

-- A later sheet replaces an earlier one, and an empty sheet is accepted.
later_sheet_replaces : sheet_in_force one_product
    (run one_product (put 0 1 (bid 0 2 100 ∷ []) ∷ put 0 1 (bid 0 1 100 ∷ []) ∷ [])) 0 ≡ Some (bid 0 1 100 ∷ [])
later_sheet_replaces = refl

empty_sheet_is_in_force : sheet_in_force one_product
    (run one_product (put 0 1 (bid 0 2 100 ∷ []) ∷ put 0 1 [] ∷ [])) 0 ≡ Some []
empty_sheet_is_in_force = refl

-- Version 2: each product has its own increment, and clock prices of A are multiples of 25.
abbrev first_of_granules : Increments → List Command
first_of_granules increments =
    put 0 1 (bid 1 2 100 ∷ []) ∷ put 1 1 (bid 0 2 100 ∷ []) ∷ put 2 1 (bid 1 1 100 ∷ []) ∷ close 1 increments [] ∷ []

an_increment_for_each_product : Newest (run granules_and_increments (first_of_granules (PerProduct (10 ∷ 20 ∷ [])))) 1
    false (line 100 100 100 None (Some 125) ∷ line 100 100 100 (Some 3) (Some 120) ∷ [])
    ((0 ∷ 2 ∷ []) ∷ (2 ∷ 0 ∷ []) ∷ (0 ∷ 1 ∷ []) ∷ []) (2 ∷ 2 ∷ 1 ∷ [])
an_increment_for_each_product = refl

increments_for_one_of_two_products : closing_of granules_and_increments (run granules_and_increments []) 1
    (PerProduct (10 ∷ [])) [] ≡ Err close_faults.Increment
increments_for_one_of_two_products = refl

an_increment_of_51_among_others : closing_of granules_and_increments (run granules_and_increments []) 1
    (PerProduct (10 ∷ 51 ∷ [])) [] ≡ Err close_faults.Increment
an_increment_of_51_among_others = refl

-- The activity limit: requested activity may be 8 in round 1, the eligibility, and 10 in round 2.
abbrev judged : SetupFields → List Command → ℕ → ℕ → List Bid → Option PutFault
judged setup commands bidder round bids = put_fault (public_setup setup) (public_state setup.products
    (run setup commands).closed) (holding setup (run setup commands).closed bidder) round bids

abbrev tens : Increments
tens = PerProduct (10 ∷ 10 ∷ [])

abbrev first_of_limit : List Command
first_of_limit = put 0 1 (bid 0 4 100 ∷ []) ∷ put 1 1 (bid 0 4 100 ∷ []) ∷ close 1 tens [] ∷ []

limit_of_the_first_round : judged activity_limit [] 0 1 (bid 0 4 100 ∷ bid 1 1 100 ∷ [])
    ≡ Some (put_faults.Bid OverActivity)
limit_of_the_first_round = refl

first_round_under_the_limit : Newest (run activity_limit first_of_limit) 1 false (line 100 100 100 (Some 8) (Some 110)
    ∷ line 100 100 100 None (Some 110) ∷ []) ((4 ∷ 0 ∷ []) ∷ (4 ∷ 0 ∷ []) ∷ []) (8 ∷ 8 ∷ [])
first_round_under_the_limit = refl

above_the_limit : judged activity_limit first_of_limit 0 2 (bid 0 3 104 ∷ bid 1 3 106 ∷ [])
    ≡ Some (put_faults.Bid OverActivity)
above_the_limit = refl

at_the_limit : judged activity_limit first_of_limit 0 2 (bid 0 3 104 ∷ bid 1 2 106 ∷ []) ≡ None
at_the_limit = refl

without_a_limit_above_the_eligibility : judged (record activity_limit { limit = 100 }) first_of_limit 0 2
    (bid 0 3 104 ∷ bid 1 2 106 ∷ []) ≡ Some (put_faults.Bid OverActivity)
without_a_limit_above_the_eligibility = refl

-- The reduction is applied by 1 block, and the increase by 1 of 2, as the eligibility pays for no more.
processed_activity_within_the_eligibility : Newest (run activity_limit (append first_of_limit (put 0 2
    (bid 0 3 104 ∷ bid 1 2 106 ∷ []) ∷ put 1 2 (bid 0 4 110 ∷ []) ∷ close 2 tens [] ∷ []))) 2 false (line 100 110 110
    (Some 7) (Some 121) ∷ line 100 110 100 None (Some 110) ∷ []) ((3 ∷ 1 ∷ []) ∷ (4 ∷ 0 ∷ []) ∷ []) (8 ∷ 8 ∷ [])
processed_activity_within_the_eligibility = refl
