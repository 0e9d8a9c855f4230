-- Examples of the rules on sheets and on requests.
use Rattle.std.specs.Prelude.{◌≡◌, ℕ, ◌<◌, List, [], ◌∷◌, Option, Some, None, length, refl, codes}
use Rattle.std.proofs.lemmas.Bool.{lt-leb}
use Rattle.clock_terms.specs.Limits.{SetupFields, PublicSetup, public_setup}
use Rattle.clock_terms.specs.declared.setup.Product.{Product}
use Rattle.clock_terms.specs.declared.prices.PricePair.{PricePair}
use Rattle.clock_terms.proofs.Examples.{one_product, two_products, activity_limit, request}
use Rattle.clock_terms.specs.Prices.{opening_prices}
use Rattle.clock_bids.specs.declared.sheet.Bid.{Bid}
use Rattle.clock_bids.specs.declared.sheet.BidFault.{BidFault}
use Rattle.clock_terms.specs.declared.change.Kind.TheVariants.{Increase, Reduction}
use Rattle.clock_bids.specs.declared.sheet.BidFault.TheVariants.{TooMany, UnknownProduct, PriceRange, OverCap}
use Rattle.clock_bids.specs.declared.sheet.BidFault.TheVariants.{PriceOrder}
use Rattle.clock_bids.specs.declared.sheet.BidFault.TheVariants.{MixedDirection, KeepPrice, OverActivity}
use Rattle.clock_bids.specs.Holding.{Holding, activity_limit as activity_limit_of}
use Rattle.clock_bids.specs.Sheet.{most_bids, sheet_fault}
use Rattle.clock_bids.specs.Changes.{changes_of_sheet}

abbrev bid : ℕ → ℕ → ℕ → Bid
bid product quantity price = record { product = product; quantity = quantity; price = price }

abbrev hold : ℕ → List ℕ → Holding
hold eligibility demands = record { eligibility = eligibility; demands = demands }

abbrev prices : List PricePair
prices = record { start = 100; clock = 110 } ∷ []

-- in round 2, bidder X has a processed demand of 2
abbrev later : List Bid → Option BidFault
later bids = sheet_fault (public_setup one_product) 2 prices (hold 3 (2 ∷ [])) bids

abbrev first : SetupFields → ℕ → List ℕ → List Bid → Option BidFault
first setup eligibility demands bids =
    sheet_fault (public_setup setup) 1 (opening_prices setup.products) (hold eligibility demands) bids

turning_chain : later (bid 0 1 103 ∷ bid 0 2 105 ∷ []) ≡ Some (MixedDirection 1)
turning_chain = refl

maintained_below_clock : later (bid 0 2 105 ∷ []) ≡ Some (KeepPrice 0)
maintained_below_clock = refl

level_price : later (bid 0 1 103 ∷ bid 0 0 103 ∷ []) ≡ Some (PriceOrder 1)
level_price = refl

unknown_product : first one_product 10 (0 ∷ []) (bid 1 1 100 ∷ []) ≡ Some (UnknownProduct 0)
unknown_product = refl

price_above_clock : first one_product 10 (0 ∷ []) (bid 0 1 101 ∷ []) ≡ Some (PriceRange 0)
price_above_clock = refl

over_cap : first one_product 10 (0 ∷ []) (bid 0 3 100 ∷ []) ≡ Some (OverCap 0)
over_cap = refl

two_bids_in_the_first_round : first one_product 10 (0 ∷ []) (bid 0 1 100 ∷ bid 0 2 100 ∷ []) ≡ Some (PriceOrder 1)
two_bids_in_the_first_round = refl

too_many : (bids : List Bid) → most_bids < length bids → first one_product 10 (0 ∷ []) bids ≡ Some TooMany
too_many bids many = rw (lt-leb (length bids) most_bids many) refl

over_activity : first two_products 1 (0 ∷ 0 ∷ []) (bid 0 1 100 ∷ bid 1 1 100 ∷ []) ≡ Some OverActivity
over_activity = refl

good_first_sheet : first one_product 10 (0 ∷ []) (bid 0 2 100 ∷ []) ≡ None
good_first_sheet = refl

reductions_in_a_chain : changes_of_sheet prices (2 ∷ []) 0 (bid 0 1 103 ∷ bid 0 0 107 ∷ [])
    ≡ request Reduction 0 0 0 1 103 ∷ request Reduction 0 0 1 1 107 ∷ []
reductions_in_a_chain = refl

maintained_demand : changes_of_sheet prices (2 ∷ []) 0 (bid 0 2 110 ∷ []) ≡ []
maintained_demand = refl

missing_bid : changes_of_sheet prices (2 ∷ []) 0 [] ≡ request Reduction 0 0 0 2 100 ∷ []
missing_bid = refl

increases_in_a_chain : changes_of_sheet prices (0 ∷ []) 0 (bid 0 1 104 ∷ bid 0 2 110 ∷ [])
    ≡ request Increase 0 0 0 1 104 ∷ request Increase 0 0 1 1 110 ∷ []
increases_in_a_chain = refl

-- an activity limit of 125 percent: with products of four blocks of two units, and of seven blocks of one unit
abbrev limited : PublicSetup
limited = public_setup activity_limit

abbrev seven_blocks : List ℕ → Product
seven_blocks name = record { name = name; units = 1; supply = 7; cap = 7; opening = 100; granule = 1 }

abbrev limited_of_seven : PublicSetup
limited_of_seven = record limited { products = seven_blocks (codes "A") ∷ seven_blocks (codes "B") ∷ [] }

abbrev both : List PricePair
both = record { start = 100; clock = 110 } ∷ record { start = 100; clock = 110 } ∷ []

twelve_of_ten : sheet_fault limited_of_seven 2 both (hold 10 (7 ∷ 3 ∷ [])) (bid 0 7 110 ∷ bid 1 5 110 ∷ []) ≡ None
twelve_of_ten = refl

thirteen_of_ten : sheet_fault limited_of_seven 2 both (hold 10 (7 ∷ 3 ∷ []))
    (bid 0 7 110 ∷ bid 1 6 110 ∷ []) ≡ Some OverActivity
thirteen_of_ten = refl

-- with an eligibility of 8, a sheet may request an activity of 8 in round 1, and of 10 later
ten_in_the_first_round : sheet_fault limited 1 (opening_prices limited.products) (hold 8 (0 ∷ 0 ∷ []))
    (bid 0 4 100 ∷ bid 1 1 100 ∷ []) ≡ Some OverActivity
ten_in_the_first_round = refl

twelve_of_eight : sheet_fault limited 2 both (hold 8 (4 ∷ 0 ∷ [])) (bid 0 3 104 ∷ bid 1 3 106 ∷ []) ≡ Some OverActivity
twelve_of_eight = refl

ten_of_eight : sheet_fault limited 2 both (hold 8 (4 ∷ 0 ∷ [])) (bid 0 3 104 ∷ bid 1 2 106 ∷ []) ≡ None
ten_of_eight = refl

ten_of_eight_without_more : sheet_fault (record limited { limit = 100 }) 2 both (hold 8 (4 ∷ 0 ∷ []))
    (bid 0 3 104 ∷ bid 1 2 106 ∷ []) ≡ Some OverActivity
ten_of_eight_without_more = refl

the_limit_is_rounded_down : activity_limit_of limited_of_seven 2 10 ≡ 12
the_limit_is_rounded_down = refl
