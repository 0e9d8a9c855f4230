-- What all requests of one bidder have in common, whatever its sheet. Bid processing relies on
-- nothing else.
--     same_kind, is_request_of      the kind of a request, and its kind, bidder, and product
--     asked_of kind bidder product changes      the blocks of a bidder's requests of one kind for a
--         product, added up
--     IsChangeOf products prices bidder change      one request of the bidder is within the limits
--     IsBefore, AreApart, GoOneWay      relations of two requests: order, identity, direction
--     KeepWithinCap      a bidder's requests for one product lead to no demand below 0 or above the
--         cap
--     AreChangesOf products prices demands bidder changes      all of this, for the requests of a
--         bidder
use Rattle.std.specs.Prelude.{◌≡◌, ℕ, ◌+◌, ◌<◌, ◌≤◌, ◌⊎◌, List, Bool, true, false, ◌&&◌, ◌==◌}
use Rattle.std.specs.Prelude.{if◌then◌else◌, length, sum_by, slice_index, All}
use Rattle.std.specs.List.{AllPairs}
use Rattle.clock_money.specs.Point.{price_point}
use Rattle.clock_terms.specs.declared.setup.Product.{Product}
use Rattle.clock_terms.specs.declared.prices.PricePair.{PricePair}
use Rattle.clock_terms.specs.Prices.{prices_at}
use Rattle.clock_terms.specs.Limits.{most_bids, most_products, most_supply, cap_of}
use Rattle.clock_terms.specs.declared.change.Change.{Change}
use Rattle.clock_terms.specs.declared.change.Kind.{Kind}
use Rattle.clock_terms.specs.declared.change.Kind.TheVariants.{Increase, Reduction}

-- both are increases, or both are reductions
abbrev pub same_kind : Kind → Kind → Bool
same_kind Increase Increase = true
same_kind Increase Reduction = false
same_kind Reduction Increase = false
same_kind Reduction Reduction = true

-- the request is of this kind, by this bidder, and for this product
abbrev pub is_request_of : Kind → ℕ → ℕ → Change → Bool
is_request_of kind bidder product change =
    same_kind kind change.kind && (change.bidder == bidder) && (change.product == product)

-- the blocks of a bidder's requests of one kind for a product, added up
abbrev pub asked_of : Kind → ℕ → ℕ → List Change → ℕ
asked_of kind bidder product changes =
    sum_by (λ change. if is_request_of kind bidder product change then change.amount else 0) changes

-- A request by `owner` for a product, of 1 to 1,000 blocks, at a price from the product's
-- start-of-round price to its clock price, with the price point of that price.
pub record IsChangeOf (products : List Product) (prices : List PricePair) (owner : ℕ)
    (change : Change) : Type 0 where
  pub bidder : change.bidder ≡ owner
  pub product : change.product < length products
  pub least : 1 ≤ change.amount
  pub most : change.amount ≤ most_supply
  pub from_start : (prices_at prices change.product).start ≤ change.price
  pub to_clock : change.price ≤ (prices_at prices change.product).clock
  pub point : change.point ≡ price_point (prices_at prices change.product).start change.price
      (prices_at prices change.product).clock

-- request a comes before request b: by product, and for one product by its place in the chain
abbrev pub IsBefore : Change → Change → Type 0
IsBefore a b = (a.product < b.product) ⊎ ((a.product ≡ b.product) × (a.place < b.place))

-- the two requests do not have the same bidder, product, and place
abbrev pub AreApart : Change → Change → Type 0
AreApart a b = a.bidder ≡ b.bidder → a.product ≡ b.product → a.place ≡ b.place → ⊥

-- if the two requests are by one bidder for one product, they go in one direction
abbrev pub GoOneWay : Change → Change → Type 0
GoOneWay a b = a.bidder ≡ b.bidder → a.product ≡ b.product → a.kind ≡ b.kind

-- All increases of a product together do not lead above the cap, and all reductions together ask
-- for no more blocks than its processed demand.
pub record KeepWithinCap (products : List Product) (demands : List ℕ) (bidder : ℕ)
    (changes : List Change) (product : ℕ) : Type 0 where
  pub raised : slice_index demands product + asked_of Increase bidder product changes
      ≤ cap_of products product
  pub reduced : asked_of Reduction bidder product changes ≤ slice_index demands product

-- A bidder's requests: within the limits, ordered by product and place, one direction for each
-- product, never below 0 or above a cap. Their number is at most the most bids of a sheet plus the
-- most products.
pub record AreChangesOf (products : List Product) (prices : List PricePair) (demands : List ℕ)
    (bidder : ℕ) (changes : List Change) : Type 0 where
  pub count : length changes ≤ most_bids + most_products
  pub all : All (IsChangeOf products prices bidder) changes
  pub sorted : AllPairs IsBefore changes
  pub apart : AllPairs AreApart changes
  pub one_way : AllPairs GoOneWay changes
  pub capped : (product : ℕ) → product < length products
      → KeepWithinCap products demands bidder changes product
