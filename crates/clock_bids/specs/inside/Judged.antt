-- A pass that checks a sheet: what is known after its first bids.
--     AreJudged products prices demands bids count taken      the first `count` bids are good, and
--         request this activity
--     AreJudgedBelow products prices demands bids count least taken      and they are for products
--         below `least`
--     HasDemand demands next      an item of an iterator over demands has the demand for its
--         product
use Rattle.std.specs.Prelude.{◌≡◌, ℕ, ◌*◌, ◌<◌, ◌≤◌, List, length, take, drop, slice_index, All}
use Rattle.clock_terms.specs.declared.setup.Product.{Product}
use Rattle.clock_terms.specs.declared.prices.PricePair.{PricePair}
use Rattle.clock_terms.specs.declared.row.ProductDemand.{ProductDemand}
use Rattle.clock_terms.specs.Eligibility.{activity}
use Rattle.clock_terms.specs.Faults.{first_fault, in_turn}
use Rattle.clock_terms.specs.Limits.{most_supply, most_units}
use Rattle.clock_bids.specs.declared.sheet.Bid.{Bid}
use Rattle.clock_bids.specs.Sheet.{asked_demands, bid_checks}
use Rattle.clock_bids.specs.inside.Parts.{checks_of_bids}
use Rattle.clock_bids.specs.inside.Chains.{AreGoodChains}

-- the first bids are good and request this activity, and the others decide the first fault
pub record AreJudged (products : List Product) (prices : List PricePair) (demands : List ℕ)
    (bids : List Bid) (count taken : ℕ) : Type 0 where
  pub good : AreGoodChains products prices demands (take count bids)
  pub taken_is : taken ≡ activity products (asked_demands (length products) (take count bids))
  pub small : taken ≤ most_units * most_supply * count
  pub ahead : first_fault (in_turn
      (λ i bid. bid_checks products prices demands (take i bids) i bid) count (drop count bids))
      ≡ first_fault (checks_of_bids products prices demands bids)

-- and the first bids are for products below `least`
pub record AreJudgedBelow (products : List Product) (prices : List PricePair) (demands : List ℕ)
    (bids : List Bid) (count least taken : ℕ) : Type 0 where
  pub judged : AreJudged products prices demands bids count taken
  pub below : All (λ bid. bid.product < least) (take count bids)

-- The item has the demand for its product. After the last item, its product is none.
pub record HasDemand (demands : List ℕ) (next : ProductDemand) : Type 0 where
  pub demand : next.product < length demands → next.demand ≡ slice_index demands next.product
  pub small : next.demand ≤ most_supply
