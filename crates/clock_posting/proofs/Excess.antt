-- Proves that comparing the aggregate demand with the supply read from the set-up decides which products have excess
-- demand.
use Rattle.std.proofs.Common.{◌≡◌, ℕ, ◌<◌, ◌≤◌, Bool, true, false, List, length, get_or, sym, ap, ◌∙◌, arith, ltb}
use Rattle.std.proofs.Common.{lt-ltb}
use Rattle.std.specs.Prelude.{if◌then◌else◌}
use Rattle.std.proofs.lemmas.Bool.{le-ltb}
use Rattle.std.proofs.lemmas.List.{get_or_read}
use Rattle.clock_terms.specs.declared.setup.Product.{Product}
use Rattle.clock_terms.specs.declared.prices.PricePair.{PricePair}
use Rattle.clock_terms.specs.Limits.{supply_of, no_product}
use Rattle.clock_terms.specs.Prices.{prices_at}
use Rattle.clock_terms.specs.Demands.{total_of}
use Rattle.clock_posting.specs.Posting.{has_excess}
use Rattle.clock_posting.specs.inside.Parts.{least_price}

-- The supply of a product that was read from the set-up.
pub supply_read : (products : List Product) (place : ℕ) (product : Product) → place < length products →
    product ≡ get_or products place product → supply_of products place ≡ product.supply
supply_read products place product below is =
    ap (λ p. p.supply) (sym (get_or_read products place product below is no_product))

-- A product has excess demand if its aggregate demand is above the supply that was read.
pub has_excess_at : (products : List Product) (grid : List (List ℕ)) (place : ℕ) (product : Product)
    → place < length products → product ≡ get_or products place product → product.supply < total_of grid place
    → has_excess products grid place ≡ true
has_excess_at products grid place product below is above = ap (λ supply. ltb supply (total_of grid place))
    (supply_read products place product below is) ∙ lt-ltb product.supply (total_of grid place) above

-- The least posted price of a product whose supply and prices were read.
module _ (products : List Product) (prices : List PricePair) (grid : List (List ℕ)) (place : ℕ) (product : Product)
    (pair : PricePair) (below : place < length products) (each : length prices ≡ length products)
    (is : product ≡ get_or products place product) (are : pair ≡ get_or prices place pair) where
  abbrev least_of : Bool → PricePair → ℕ
  least_of excess one = if excess then one.clock else one.start

  read : prices_at prices place ≡ pair
  read = sym (get_or_read prices place pair (omega (arith, below, each)) are (record { start = 0; clock = 0 }))

  pub least_above : product.supply < total_of grid place → pair.clock ≡ least_price products prices grid place
  least_above above = sym (ap (λ (excess : Bool). least_of excess (prices_at prices place))
      (has_excess_at products grid place product below is above) ∙ ap (least_of true) read)

  pub least_within : total_of grid place ≤ product.supply → pair.start ≡ least_price products prices grid place
  least_within within = sym (ap (λ (supply : ℕ). least_of (ltb supply (total_of grid place)) (prices_at prices place))
      (supply_read products place product below is) ∙ ap (λ (excess : Bool). least_of excess (prices_at prices place))
      (le-ltb product.supply (total_of grid place) within) ∙ ap (least_of false) read)
