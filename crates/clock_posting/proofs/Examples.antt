-- Posted prices, round results, and price limits of small rounds, computed from their definitions.
use Rattle.std.specs.Prelude.{◌≡◌, ℕ, List, [], ◌∷◌, Option, Some, None, true, false, refl}
use Rattle.clock_terms.specs.declared.increments.Increments.TheVariants.{Single, PerProduct}
use Rattle.clock_terms.specs.declared.setup.Product.{Product}
use Rattle.clock_terms.specs.declared.prices.PricePair.{PricePair}
use Rattle.clock_terms.specs.Prices.{opening_prices}
use Rattle.clock_terms.proofs.Examples.{one_product, two_products, two_blocks, request}
use Rattle.clock_terms.specs.declared.change.Change.{Change}
use Rattle.clock_terms.specs.declared.change.Kind.TheVariants.{Increase, Reduction}
use Rattle.clock_posting.specs.declared.sheet.Line.{Line}
use Rattle.clock_posting.specs.Posting.{opening_posted, price_limit_fault, round_sheet}
use Rattle.clock_posting.specs.PostedPrice.{posted_prices}

-- Round 2 of a product with an opening price of 100 and an increment of 10 percent.
abbrev second : PricePair
second = record { start = 100; clock = 110 }

-- Before the round, X demands 2 of A, and Y 1. Y's reduction by 1, at 100, is applied.
abbrev posted_of_one : ℕ → ℕ → List (List ℕ) → List ℕ
posted_of_one price left grid = posted_prices one_product.products (second ∷ [])
    (request Reduction 1 0 0 1 100 ∷ request Reduction 0 0 0 2 price ∷ []) (0 ∷ left ∷ []) grid

drop_without_room_is_not_posted : posted_of_one 103 2 ((2 ∷ []) ∷ (0 ∷ []) ∷ []) ≡ 100 ∷ []
drop_without_room_is_not_posted = refl

drop_applied_in_part_is_posted : posted_of_one 103 1 ((1 ∷ []) ∷ (0 ∷ []) ∷ []) ≡ 103 ∷ []
drop_applied_in_part_is_posted = refl

the_highest_of_two_reductions_is_posted : posted_prices one_product.products (second ∷ []) (request Reduction 0 0 0 1
    104 ∷ request Reduction 1 0 0 1 102 ∷ []) (0 ∷ 0 ∷ []) ((0 ∷ []) ∷ (0 ∷ []) ∷ []) ≡ 104 ∷ []
the_highest_of_two_reductions_is_posted = refl

no_reduction_posts_the_start_price : posted_prices one_product.products (second ∷ []) [] []
    ((1 ∷ []) ∷ (1 ∷ []) ∷ []) ≡ 100 ∷ []
no_reduction_posts_the_start_price = refl

-- Y's reduction of A has room only after X's increase was applied, and counts with its own price.
abbrev in_turn : List Change
in_turn = request Reduction 1 0 0 1 102 ∷ request Increase 0 0 0 1 104 ∷ request Reduction 0 1 0 1 106 ∷ []

kept_reduction_counts_with_its_own_price : posted_prices two_products.products (second ∷ second ∷ []) in_turn
    (0 ∷ 0 ∷ 0 ∷ []) ((1 ∷ 1 ∷ []) ∷ (1 ∷ 0 ∷ []) ∷ (0 ∷ 1 ∷ []) ∷ []) ≡ 102 ∷ 106 ∷ []
kept_reduction_counts_with_its_own_price = refl

-- The aggregate demand is 1 of A and 3 of B, with supplies of 2. Y's reduction has no room.
abbrev goes_on : List (List ℕ)
goes_on = (0 ∷ 2 ∷ []) ∷ (1 ∷ 0 ∷ []) ∷ (0 ∷ 1 ∷ []) ∷ []

excess_demand_posts_the_clock_price : posted_prices two_products.products (second ∷ second ∷ [])
    (request Reduction 1 0 0 1 100 ∷ []) (1 ∷ []) goes_on ≡ 100 ∷ 110 ∷ []
excess_demand_posts_the_clock_price = refl

abbrev line : ℕ → Option ℕ → Option ℕ → Line
line posted demand next = record { start = 100; clock = 110; posted = posted; demand = demand; next = next }

every_product_gets_a_next_clock_price :
    round_sheet 2 two_products.products (second ∷ second ∷ []) goes_on (100 ∷ 110 ∷ []) (Single 10)
    ≡ record { round = 2; ended = false; lines = line 100 None (Some 110) ∷ line 110 (Some 3) (Some 121) ∷ [] }
every_product_gets_a_next_clock_price = refl

no_next_clock_price_at_the_end :
    round_sheet 2 one_product.products (second ∷ []) ((1 ∷ []) ∷ (1 ∷ []) ∷ []) (103 ∷ []) (Single 10)
    ≡ record { round = 2; ended = true; lines = line 103 None None ∷ [] }
no_next_clock_price_at_the_end = refl

highest_price_cannot_rise : price_limit_fault one_product.products ((2 ∷ []) ∷ (1 ∷ []) ∷ [])
    (1000000000000 ∷ []) (Single 1) ≡ Some 0
highest_price_cannot_rise = refl

highest_price_may_be_the_last : price_limit_fault one_product.products ((1 ∷ []) ∷ (1 ∷ []) ∷ [])
    (1000000000000 ∷ []) (Single 1) ≡ None
highest_price_may_be_the_last = refl

-- A and B with granules of 25 dollars and 1 dollar.
abbrev granules : List Product
granules = record (two_blocks (65 ∷ [])) { granule = 25 } ∷ record (two_blocks (66 ∷ [])) { granule = 1 } ∷ []

abbrev opening_line : Option ℕ → Option ℕ → Line
opening_line demand next = record { start = 100; clock = 100; posted = 100; demand = demand; next = next }

each_product_has_its_own_increment_and_granule : round_sheet 1 granules (opening_prices granules)
    ((0 ∷ 2 ∷ []) ∷ (2 ∷ 0 ∷ []) ∷ (0 ∷ 1 ∷ []) ∷ []) (opening_posted granules) (PerProduct (10 ∷ 20 ∷ []))
    ≡ record { round = 1; ended = false; lines = opening_line None (Some 125) ∷ opening_line (Some 3) (Some 120) ∷ [] }
each_product_has_its_own_increment_and_granule = refl
