-- Small set-ups and requests for examples here and in higher crates, and an example of the rule on eligibility.
--     one_product, two_products, granules_and_increments, activity_limit      the set-ups, built by first_version
--     two_blocks name, four_blocks name, bidder_named letter eligibility      their products and bidders
--     request kind bidder product place amount price      a request in a round whose prices are from 100 to 110
use Rattle.std.specs.Prelude.{◌≡◌, ℕ, ◌-◌, List, [], ◌∷◌, codes, replicate, refl}
use Rattle.clock_terms.specs.declared.setup.Product.{Product}
use Rattle.clock_terms.specs.declared.setup.Bidder.{Bidder}
use Rattle.clock_terms.specs.declared.change.Change.{Change}
use Rattle.clock_terms.specs.declared.change.Kind.{Kind}
use Rattle.clock_terms.specs.Limits.{SetupFields}
use Rattle.clock_terms.specs.Eligibility.{activity, next_eligibility}
use Rattle.clock_terms.specs.Demands.{no_demands, with_demand, total_of}
use Rattle.clock_terms.specs.Prices.{opening_prices}

-- a product of two blocks of one bidding unit each, with an opening price of 100
abbrev pub two_blocks : List ℕ → Product
two_blocks name = record { name = name; units = 1; supply = 2; cap = 2; opening = 100; granule = 1 }

-- a bidder whose token is one letter, 16 times
abbrev pub bidder_named : ℕ → ℕ → Bidder
bidder_named letter eligibility = record { name = letter ∷ []; token = replicate 16 letter; eligibility = eligibility }

-- a set-up of version 1
abbrev pub first_version : ℕ → List Product → List Bidder → SetupFields
first_version requirement products bidders = record {
  version = 1;
  limit = 100;
  requirement = requirement;
  operator = codes "OPERATOROPERATOR";
  products = products;
  bidders = bidders;
}

-- one product A, and bidders X and Y with an eligibility of 10
abbrev pub one_product : SetupFields
one_product = first_version 95 (two_blocks (codes "A") ∷ []) (bidder_named 88 10 ∷ bidder_named 89 10 ∷ [])

-- two products A and B, and bidders X, Y, and Z with eligibilities of 2, 2, and 1
abbrev pub two_products : SetupFields
two_products = first_version 100 (two_blocks (codes "A") ∷ two_blocks (codes "B") ∷ [])
    (bidder_named 88 2 ∷ bidder_named 89 2 ∷ bidder_named 90 1 ∷ [])

-- like two_products, but of version 2: the clock prices of A are multiples of 25
abbrev pub granules_and_increments : SetupFields
granules_and_increments = record two_products {
  version = 2;
  products = record (two_blocks (codes "A")) { granule = 25 } ∷ two_blocks (codes "B") ∷ [];
}

-- a product of four blocks of two bidding units each
abbrev pub four_blocks : List ℕ → Product
four_blocks name = record { name = name; units = 2; supply = 4; cap = 4; opening = 100; granule = 1 }

-- two products A and B, and bidders X and Z with an eligibility of 8, who may request an activity of 10 from round 2
abbrev pub activity_limit : SetupFields
activity_limit = record two_products {
  version = 2;
  limit = 125;
  products = four_blocks (codes "A") ∷ four_blocks (codes "B") ∷ [];
  bidders = bidder_named 88 8 ∷ bidder_named 90 8 ∷ [];
}

-- a request in a round with prices from 100 to 110
abbrev pub request : Kind → ℕ → ℕ → ℕ → ℕ → ℕ → Change
request kind bidder product place amount price = record {
  bidder = bidder;
  product = product;
  place = place;
  kind = kind;
  amount = amount;
  price = price;
  point = record { above = price - 100; span = 10 };
}

-- 95 percent of 95 is 90.25, which covers an activity of 90; 95 percent of 94 is 89.3, which does not
eligibility_is_rounded_up : next_eligibility 100 90 95 ≡ 95
eligibility_is_rounded_up = refl

eligibility_never_grows : next_eligibility 100 95 95 ≡ 100
eligibility_never_grows = refl

no_activity_keeps_no_eligibility : next_eligibility 100 0 95 ≡ 0
no_activity_keeps_no_eligibility = refl

activity_adds_up_units : activity two_products.products (2 ∷ 1 ∷ []) ≡ 3
activity_adds_up_units = refl

total_over_two_bidders : total_of (with_demand (with_demand (no_demands 2 1) 0 0 2) 1 0 1) 0 ≡ 3
total_over_two_bidders = refl

opening_prices_are_start_and_clock : opening_prices one_product.products ≡ record { start = 100; clock = 100 } ∷ []
opening_prices_are_start_and_clock = refl
