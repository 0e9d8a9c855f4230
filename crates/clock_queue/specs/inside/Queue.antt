-- The state of an event queue between its steps, and what each step does to it.
--     progress queue      the state as bid processing by definition has it
--     after_test queue      the queue after one more test
--     SameTerms old new      products and eligibilities are unchanged
--     TakesBlocks old new      the applications in between took at least one block each
--     LeadsTo changes old new      bid processing by definition gets from one state to the other
--     progress_with changes queue place      the state after a request is applied
--     HasSoundLines changes queue      the invariant of the lines
--     IsTracking changes queue ready      for each admitted request with room, an earlier or equal
--         one of its line is ready and has room
--     HasWoken line limit old new      the first request in a line within the limit is ready now
--     HasWokenProduct change rest old new      the first request that waits for the product is
--         ready now, unless none of them can have room
--     IsAppliedWhole changes place old new      a request was applied by its whole room
--     IsTested changes place old new      a request was tested, and applied if it had room
--     StaysWithinTests changes queue      the tests so far, and one for each ready request, are
--         within the bound
--     StaysWithinReads changes queue reads      the reads so far are within the bound
--     GoesOn changes old new      the invariants hold again, and bid processing by definition gets
--         from one state to the other
--     work queue      a number that falls with each test
use Rattle.std.specs.Prelude.{◌≡◌, ℕ, ◌+◌, ◌*◌, ◌<◌, ◌≤◌, ◌⊎◌, List, length, sum, All, slice_index}
use Rattle.std.specs.Prelude.{slice_index_or, slice_set}
use Rattle.std.specs.List.{Contains}
use Rattle.clock_terms.specs.declared.setup.Product.{Product}
use Rattle.clock_terms.specs.declared.change.Change.{Change}
use Rattle.clock_terms.specs.declared.change.Kind.TheVariants.{Reduction}
use Rattle.clock_processor.specs.Board.{tested}
use Rattle.clock_processor.specs.Settling.{Progress, Reaches, no_change, room_at, with_application}
use Rattle.clock_processor.specs.inside.UnderWay.{IsUnderWay, progress_of}
use Rattle.clock_queue.specs.declared.queue.Queue.{Queue}
use Rattle.clock_queue.specs.inside.Lines.{line_of, cost_of, product_line, HasLines, LineFields}
use Rattle.clock_queue.specs.inside.Lines.{empty_line, IsSpent, IsFirstWaiting}
use Rattle.clock_queue.specs.inside.Ready.{IsAdded}
use Rattle.clock_queue.specs.Bound.{most_woken}

-- the state of bid processing that the queue has reached
abbrev pub progress : Queue → Progress
progress queue = progress_of queue.board queue.admitted queue.left

-- the queue after one more test
abbrev pub after_test : Queue → Queue
after_test queue = record queue { board = tested queue.board }

-- products and eligibilities are unchanged
pub record SameTerms (old new : Queue) : Type 0 where
  pub products : new.board.products ≡ old.board.products
  pub eligibilities : new.board.eligibilities ≡ old.board.eligibilities

-- the applications in between took at least one block each
abbrev pub TakesBlocks : Queue → Queue → Type 0
TakesBlocks old new = new.board.applied + sum new.left ≤ old.board.applied + sum old.left

-- a line of a queue
abbrev pub line_in : Queue → ℕ → LineFields
line_in queue line = slice_index_or queue.lines line empty_line

-- the first request in the line within the limit was made ready
pub record IsMadeReady (line limit : ℕ) (old new : Queue) : Type 0 where
  pub place : ℕ
  pub first : IsFirstWaiting old.left (line_in new line) limit place
  pub ready : IsAdded old.ready place new.ready

-- no request of the line is within the limit
pub record IsLeft (line limit : ℕ) (old new : Queue) : Type 0 where
  pub none : All (λ cost. limit < cost) (line_in new line).costs
  pub ready : new.ready ≡ old.ready

-- the first request in the line within the limit was made ready, if there is one
pub record HasWoken (line limit : ℕ) (old new : Queue) : Type 0 where
  pub same : new ≡ record old { ready = new.ready; lines = new.lines }
  pub others : new.lines ≡ slice_set old.lines line (line_in new line)
  pub spent : IsSpent old.left (line_in old line) (line_in new line)
  pub woken : IsMadeReady line limit old new ⊎ IsLeft line limit old new

-- no request was made ready: the applied request is a reduction with blocks left
pub record IsPassedOver (change : Change) (rest : ℕ) (old new : Queue) : Type 0 where
  pub same : new ≡ old
  pub reduces : change.kind ≡ Reduction
  pub more : 0 < rest

-- the first request that waits for the product was made ready, if there is one and it can have room
abbrev pub HasWokenProduct : Change → ℕ → Queue → Queue → Type 0
HasWokenProduct change rest old new =
    HasWoken (product_line change.product) 0 old new ⊎ IsPassedOver change rest old new

-- An application takes at least one block and makes at most two requests ready; a test removes one
-- ready request.
abbrev pub work : Queue → ℕ
work queue = sum queue.left * 3 + length queue.ready

module _ (changes : List Change) where
  -- the line of the request with an index
  abbrev pub line_at : ℕ → ℕ
  line_at place = line_of (slice_index_or changes place no_change)

  -- what a block of the request with an index costs
  abbrev pub cost_at : List Product → ℕ → ℕ
  cost_at products place = cost_of products (slice_index_or changes place no_change)

  -- the room of the request with an index
  abbrev pub room_in : Queue → ℕ → ℕ
  room_in queue place =
      room_at queue.board.products queue.board.eligibilities changes (progress queue) place

  -- bid processing by the rescanned list gets from one state to the other
  abbrev pub LeadsTo : Queue → Queue → Type 0
  LeadsTo old new =
      Reaches old.board.products old.board.eligibilities changes (progress old) (progress new)

  -- the state after the request with an index is applied by its whole room
  abbrev pub progress_with : Queue → ℕ → Progress
  progress_with queue place =
      with_application queue.board.products queue.board.eligibilities changes (progress queue) place

  -- an index in a line is that of an admitted request of this line
  pub record IsInLine (admitted line place : ℕ) : Type 0 where
    pub admitted_before : place < admitted
    pub own_line : line_at place ≡ line

  -- The requests in a line are in the order of processing. Each has its cost, unless nothing of it
  -- is left.
  pub record IsLine (products : List Product) (left : List ℕ) (admitted line : ℕ)
      (held : LineFields) : Type 0 where
    pub lengths : length held.costs ≡ length held.places
    pub members : (at : ℕ) → at < length held.places
        → IsInLine admitted line (slice_index held.places at)
    pub ascending : (one other : ℕ) → one < other → other < length held.places
        → slice_index held.places one < slice_index held.places other
    pub costs : (at : ℕ) → at < length held.places → (slice_index left (slice_index held.places at)
        ≡ 0) ⊎ (slice_index held.costs at ≡ cost_at products (slice_index held.places at))

  -- nothing is left of the request, or it is in its line
  abbrev pub IsWaiting : Queue → ℕ → Type 0
  IsWaiting queue place =
      (slice_index queue.left place ≡ 0) ⊎ Contains (line_in queue (line_at place)).places place

  -- Bid processing is under way, ready requests are admitted, and each admitted request with blocks
  -- left is in its line.
  pub record HasSoundLines (queue : Queue) : Type 0 where
    pub under_way : IsUnderWay queue.board changes queue.left queue.admitted
    pub lines : All (HasLines (length queue.lines)) changes
    pub ready : All (λ place. place < queue.admitted) queue.ready
    pub each : (line : ℕ)
        → IsLine queue.board.products queue.left queue.admitted line (line_in queue line)
    pub waiting : (place : ℕ) → place < queue.admitted → IsWaiting queue place

  -- a ready request of the line that is this one or an earlier one has room
  pub record IsBehind (queue : Queue) (ready : List ℕ) (place : ℕ) : Type 0 where
    pub at : ℕ
    pub is_ready : Contains ready at
    pub own_line : line_at at ≡ line_at place
    pub before : at ≤ place
    pub room : 0 < room_in queue at

  -- If an admitted request has room, it or an earlier one of its line is ready and has room. So the
  -- first ready request with room is the first admitted request with room.
  abbrev pub IsTracking : Queue → List ℕ → Type 0
  IsTracking queue ready =
      (place : ℕ) → place < queue.admitted → (room_in queue place ≡ 0) ⊎ IsBehind queue ready place

  -- The tests so far and one for each ready request are at most one for each admitted request and
  -- most_woken for each application.
  abbrev pub StaysWithinTests : Queue → Type 0
  StaysWithinTests queue = queue.board.tests + length queue.ready ≤ queue.admitted
      + queue.board.applied * most_woken changes

  -- The reads so far are at most one for each request, for its amount and lines, and one for each
  -- admission, test, and application.
  abbrev pub StaysWithinReads : Queue → ℕ → Type 0
  StaysWithinReads queue reads = reads ≤ length changes + queue.admitted + queue.board.tests
      + queue.board.applied

  -- Tests made and tests to be made grew by at most `more`, apart from those that the bound allows
  -- for the applications in between.
  abbrev pub CostsMore : ℕ → Queue → Queue → Type 0
  CostsMore more old new = new.board.tests + length new.ready + old.board.applied * most_woken
      changes ≤ more + old.board.tests + length old.ready + new.board.applied * most_woken changes

  -- The invariants hold again, products and eligibilities are unchanged, and bid processing by the
  -- rescanned list gets from the old state to the new one, within the bound.
  pub record GoesOn (old new : Queue) : Type 0 where
    pub in_order : HasSoundLines new
    pub tracked : IsTracking new new.ready
    pub counts : StaysWithinTests new
    pub terms : SameTerms old new
    pub blocks : TakesBlocks old new
    pub reached : LeadsTo old new

  -- the request with an index was applied by its whole room, and has no room left
  pub record IsAppliedWhole (place : ℕ) (old new : Queue) : Type 0 where
    pub in_order : HasSoundLines new
    pub tracked : IsTracking new new.ready
    pub terms : SameTerms old new
    pub blocks : TakesBlocks old new
    pub applied : progress new ≡ progress_with old place
    pub tests : new.board.tests ≡ old.board.tests
    pub no_room : room_in new place ≡ 0
    pub counts : CostsMore 0 old new
    pub less : work new < work old

  -- the request had no room, and nothing was applied
  pub record HadNoRoom (place : ℕ) (old new : Queue) : Type 0 where
    pub none : room_in old place ≡ 0
    pub same : progress new ≡ progress old

  -- the request had room, and was applied by all of it
  pub record HadRoom (place : ℕ) (old new : Queue) : Type 0 where
    pub some : 0 < room_in old place
    pub applied : progress new ≡ progress_with old place

  -- the request with an index was tested, and applied by its whole room: it has no room left
  pub record IsTested (place : ℕ) (old new : Queue) : Type 0 where
    pub in_order : HasSoundLines new
    pub tracked : IsTracking new new.ready
    pub terms : SameTerms old new
    pub blocks : TakesBlocks old new
    pub step : HadNoRoom place old new ⊎ HadRoom place old new
    pub no_room : room_in new place ≡ 0
    pub counts : CostsMore 1 old new
    pub less : work new ≤ work old
