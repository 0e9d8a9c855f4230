-- The result of bid processing.
--     IsSettlement board changes end      the result is the state that `settled` computes
--     IsProperEnd board changes end      what holds at every end of bid processing
use Rattle.std.specs.Prelude.{◌≡◌, ℕ, ◌≤◌, List, length, min, EachIndex, slice_index}
use Rattle.std.specs.Prelude.{slice_index_or}
use Rattle.clock_terms.specs.Limits.{supply_of}
use Rattle.clock_terms.specs.Demands.{total_of}
use Rattle.clock_terms.specs.declared.change.Change.{Change}
use Rattle.clock_processor.specs.Room.{room}
use Rattle.clock_processor.specs.Board.{BoardFields, IsWithinEligibility}
use Rattle.clock_processor.specs.Settling.{Progress, Settles, start_of, settled, no_change}

-- the processed demands, the blocks left of each request, and the counts
pub record SettledFields : Type 0 where
  pub grid : List (List ℕ)
  pub left : List ℕ
  pub applied : ℕ
  pub tests : ℕ

-- The processed demands, the blocks left, and the count of applications are those that `settled`
-- computes.
pub record IsSettlement (board : BoardFields) (changes : List Change)
    (end : SettledFields) : Type 0 where
  pub grid : end.grid ≡ (settled board.products board.eligibilities changes board.grid).grid
  pub left : end.left ≡ (settled board.products board.eligibilities changes board.grid).left
  pub applied : end.applied
      ≡ (settled board.products board.eligibilities changes board.grid).applied

-- the state with the result's demands and counts in which all requests are admitted
abbrev pub end_of : List Change → SettledFields → Progress
end_of changes end =
    record { admitted = length changes; left = end.left; grid = end.grid; applied = end.applied }

-- what is left of the request with this index has no room
abbrev pub HasNoRoom : BoardFields → List Change → SettledFields → ℕ → Type 0
HasNoRoom board changes end place = room board.products board.eligibilities end.grid
    (slice_index_or changes place no_change) (slice_index end.left place) ≡ 0

-- Bid processing ends in this state. No request has room, or more blocks left than it asked for. No
-- product's aggregate demand is below its supply, or below its old value if that was less. Each
-- bidder's demands are within the caps, and their activity within its eligibility.
pub record IsProperEnd (board : BoardFields) (changes : List Change)
    (end : SettledFields) : Type 0 where
  pub settles : Settles board.products board.eligibilities changes
      (start_of board.products board.eligibilities changes board.grid) (end_of changes end)
  pub lengths : length end.left ≡ length changes
  pub left : EachIndex changes
      (λ place. slice_index end.left place ≤ (slice_index_or changes place no_change).amount)
  pub no_room : EachIndex changes (HasNoRoom board changes end)
  pub supply : (product : ℕ) → min (total_of board.grid product) (supply_of board.products product)
      ≤ total_of end.grid product
  pub within : IsWithinEligibility board.products board.eligibilities end.grid
