-- The lines in which requests wait for room (own rule: a reduction waits for the demand of its
-- product to rise, an increase for its bidder to give something up).
--     line_of change      the number of the line in which a request waits
--     cost_of products change      what a block of the request costs its bidder
--     HasLines count change      the lines of its product and bidder are among the first `count`
--     LineFields      a line: the indices of its requests, and their costs
--     with_waiting line place cost      the line with one more request
--     IsSpent left old new      only costs of requests with nothing left were spent
--     IsFirstWaiting left line limit place      the first request within the limit has blocks left
--     lines_of index lines      all lines: those that were made, and empty ones
--     IsIndex index count      each line has no position, or one of its own below `count`
use Rattle.std.specs.Prelude.{◌≡◌, ℕ, ◌+◌, ◌*◌, ◌-◌, ◌^◌, ◌<◌, ◌⊎◌, List, [], ◌∷◌, ◌++◌, length}
use Rattle.std.specs.Prelude.{map, slice_index, slice_index_or}
use Rattle.clock_terms.specs.declared.setup.Product.{Product}
use Rattle.clock_terms.specs.Limits.{units_of}
use Rattle.clock_terms.specs.declared.change.Change.{Change}
use Rattle.clock_terms.specs.declared.change.Kind.{Kind}
use Rattle.clock_terms.specs.declared.change.Kind.TheVariants.{Increase, Reduction}
use Rattle.clock_queue.specs.inside.Costs.{IsFirstWithin}

-- the number of the line of a product's reductions
abbrev pub product_line : ℕ → ℕ
product_line product = 2 * product

-- the number of the line of a bidder's increases
abbrev pub bidder_line : ℕ → ℕ
bidder_line bidder = 2 * bidder + 1

-- the line by the kind of a request
abbrev pub line_by : Kind → ℕ → ℕ → ℕ
line_by Reduction bidder product = product_line product
line_by Increase bidder product = bidder_line bidder

-- a reduction waits in the line of its product, an increase in that of its bidder
abbrev pub line_of : Change → ℕ
line_of change = line_by change.kind change.bidder change.product

-- the cost by the kind of a request
abbrev pub cost_by : Kind → ℕ → ℕ
cost_by Reduction units = 0
cost_by Increase units = units

-- a block of an increase costs the product's bidding units, one of a reduction nothing
abbrev pub cost_of : List Product → Change → ℕ
cost_of products change = cost_by change.kind (units_of products change.product)

-- the lines of the request's product and bidder are among the first `count`
pub record HasLines (count : ℕ) (change : Change) : Type 0 where
  pub product : product_line change.product < count
  pub bidder : bidder_line change.bidder < count

-- the indices of the requests in a line, and the cost of a block of each
pub record LineFields : Type 0 where
  pub places : List ℕ
  pub costs : List ℕ

-- a line without requests
abbrev pub empty_line : LineFields
empty_line = record { places = []; costs = [] }

-- the line with a request appended
abbrev pub with_waiting : LineFields → ℕ → ℕ → LineFields
with_waiting line place cost =
    record { places = line.places ++ place ∷ []; costs = line.costs ++ cost ∷ [] }

-- The requests in the line are unchanged, and only costs of requests with nothing left have
-- changed.
pub record IsSpent (left : List ℕ) (old new : LineFields) : Type 0 where
  pub places : new.places ≡ old.places
  pub costs : length new.costs ≡ length old.costs
  pub spent : (at : ℕ) → at < length old.places → (slice_index new.costs at
      ≡ slice_index old.costs at) ⊎ (slice_index left (slice_index old.places at) ≡ 0)

-- the first request of the line within the limit has this index, and blocks of it are left
pub record IsFirstWaiting (left : List ℕ) (line : LineFields) (limit : ℕ) (place : ℕ) : Type 0 where
  pub at : ℕ
  pub is_first : IsFirstWithin line.costs limit at
  pub is : slice_index line.places at ≡ place
  pub waits : 0 < slice_index left place

-- the position of a line that was never made
abbrev pub nowhere : ℕ
nowhere = 2 ^ 64 - 1

-- each line by its position: one without a position is empty
abbrev pub lines_of : List ℕ → List LineFields → List LineFields
lines_of index lines = map (λ at. slice_index_or lines at empty_line) index

-- each line has no position, or a position that no other line has
pub record IsIndex (index : List ℕ) (count : ℕ) : Type 0 where
  pub positions : (line : ℕ) → line < length index
      → (slice_index index line < count) ⊎ (slice_index index line ≡ nowhere)
  pub own : (one other : ℕ) → one < length index → other < length index → slice_index index one
      < count → slice_index index one ≡ slice_index index other → one ≡ other
