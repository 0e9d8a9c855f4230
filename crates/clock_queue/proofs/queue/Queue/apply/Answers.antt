-- The calls together are one application by the whole room.
use Rattle.std.proofs.Common.{◌≡◌, ℕ, ◌-◌, ◌<◌, ◌∷◌, min, List, length, get_or, set, ap, refl, sym, subst, ◌∙◌, arith}
use Rattle.std.proofs.Common.{All}
use Rattle.std.proofs.lemmas.List.{length-set}
use Rattle.std.proofs.lemmas.Result.{on_ok_weaker}
use Rattle.clock_terms.specs.Limits.{most_units}
use Rattle.clock_terms.specs.declared.change.Change.{Change}
use Rattle.clock_processor.specs.Room.{unused_units}
use Rattle.clock_processor.specs.Board.{BoardFields, IsBoard, MayApply, applied_to}
use Rattle.clock_processor.specs.Settling.{no_change}
use Rattle.clock_queue.specs.declared.queue.Queue.{Queue}
use Rattle.clock_queue.specs.inside.Lines.{product_line, bidder_line}
use Rattle.clock_queue.specs.inside.Queue.{HasWoken, HasWokenProduct, IsAppliedWhole, HasSoundLines, IsTracking}
use Rattle.clock_queue.specs.inside.Queue.{line_in, room_in}
use Rattle.clock_queue.proofs.Applies.{after, applied_whole, bidder_in, kept_mid, may_apply_first, places_within}
use Rattle.clock_queue.proofs.ReadBounds.{reads_applied}
use Rattle.clock_queue.proofs.queue.Queue.apply.Goals as goal

some_room : (room r : ℕ) → room ≡ r → 0 < room → 0 < r
some_room room r same some = subst (λ n. 0 < n) same some

-- the new fields, as one application of the request
module _ (changes : List Change) (first room : ℕ) (old mid new : Queue) (one : Change) (board : BoardFields)
    (read left : List ℕ) (unused rest : ℕ) (is : HasSoundLines changes old) (lt : first < length changes)
    (is_board : IsBoard old.board.products old.board.eligibilities old.board.grid)
    (room_is : room ≡ room_in changes old first) (positive : 0 < room)
    (change_is : one ≡ get_or changes first no_change)
    (board_is : board ≡ applied_to old.board one room) (read_is : read ≡ old.left)
    (left_is : left ≡ set old.left first (get_or read first 0 - room)) (rest_is : rest ≡ get_or read first 0 - room)
    (woken : HasWokenProduct one rest (record old { board = board; left = left }) mid) where
  some : 0 < room_in changes old first
  some = some_room room (room_in changes old first) room_is positive

  board_after : board ≡ applied_to old.board (get_or changes first no_change) (room_in changes old first)
  board_after = board_is ∙ ap (λ c. applied_to old.board c room) change_is
      ∙ ap (applied_to old.board (get_or changes first no_change)) room_is

  left_after : left ≡ set old.left first (get_or old.left first 0 - room_in changes old first)
  left_after = left_is ∙ ap (λ (list : List ℕ). set old.left first (get_or list first 0 - room)) read_is
      ∙ ap (λ n. set old.left first (get_or old.left first 0 - n)) room_is

  after_is : ◌≡◌ {A = Queue} (record old { board = board; left = left }) (after changes old first is lt is_board some)
  after_is = λ k. record {
    board = board_after k;
    left = left_after k;
    admitted = old.admitted;
    ready = old.ready;
    lines = old.lines;
  }

  rest_after : rest ≡ get_or old.left first 0 - room_in changes old first
  rest_after = rest_is ∙ ap (λ (list : List ℕ). get_or list first 0 - room) read_is
      ∙ ap (λ n. get_or old.left first 0 - n) room_is

  product_woken : HasWokenProduct (get_or changes first no_change) (get_or old.left first 0 - room_in changes old first)
      (after changes old first is lt is_board some) mid
  product_woken = subst (λ (queue : Queue). HasWokenProduct (get_or changes first no_change)
      (get_or old.left first 0 - room_in changes old first) queue mid) after_is (subst (λ n.
      HasWokenProduct (get_or changes first no_change) n (record old { board = board; left = left }) mid) rest_after
      (subst (λ (c : Change). HasWokenProduct c rest (record old { board = board; left = left }) mid) change_is woken))

  pub places_mid : (at : ℕ) → All (λ place. place < length mid.left) (line_in mid at).places
  places_mid = places_within changes mid (kept_mid changes old first is lt is_board some mid product_woken)

  pub line_mid : bidder_line one.bidder < length mid.lines
  line_mid = subst (λ (c : Change). bidder_line c.bidder < length mid.lines) (sym change_is)
      (bidder_in changes old first is lt is_board some mid product_woken)

  pub joined : IsTracking changes old (first ∷ old.ready)
      → unused ≡ unused_units board.products board.eligibilities board.grid one.bidder
      → HasWoken (bidder_line one.bidder) (min unused most_units) mid new → IsAppliedWhole changes first old new
  joined tracked unused_is next =
      applied_whole changes old first is lt is_board some mid product_woken new (min unused most_units)
      (subst (λ (c : Change). HasWoken (bidder_line c.bidder) (min unused most_units) mid new) change_is next)
      (ap (λ n. min n most_units) (unused_is
      ∙ ap (λ (b : BoardFields). unused_units b.products b.eligibilities b.grid one.bidder) board_after
      ∙ ap (λ (c : Change). unused_units old.board.products old.board.eligibilities
      (applied_to old.board (get_or changes first no_change) (room_in changes old first)).grid c.bidder) change_is))
      tracked

pub apply-unused-requires : goal.apply-unused-requires
apply-unused-requires c =
    let some : 0 < room_in c.args.requests.now c.args.self.now c.args.place =
    some_room _ _ c.requires.room c.requires.positive in
    subst (λ (n : ℕ). MayApply c.args.self.now.board c.read-change.result.now n) (sym c.requires.room) (subst
    (λ (one : Change). MayApply c.args.self.now.board one (room_in c.args.requests.now c.args.self.now c.args.place))
    (sym c.read-change.ensures.request) (may_apply_first c.args.requests.now c.args.self.now c.args.place
    c.requires.in_order c.requires.within c.requires.is_board some))

pub wake_product-requires-clause-places : goal.wake_product-requires-clause-places
wake_product-requires-clause-places c = λ k d within. omega (
  arith,
  places_within c.args.requests.now c.args.self.now c.requires.in_order
      (product_line c.read-change.result.now.product) k d within,
  ap (λ (list : List ℕ). length list) c.set.ensures,
  length-set c.args.self.now.left c.args.place (get_or c.as_slice.result.now c.args.place 0 - c.args.room),
)

pub wake_bidder-requires-clause-line : goal.wake_bidder-requires-clause-line
wake_bidder-requires-clause-line c = line_mid c.args.requests.now c.args.place c.args.room c.args.self.now
    c.wake_product.new.self c.wake_product.new.self c.read-change.result.now c.apply-unused.new.self
    c.as_slice.result.now c.set.new.self c.apply-unused.result (get_or c.as_slice.result.now c.args.place 0
    - c.args.room) c.requires.in_order c.requires.within c.requires.is_board c.requires.room c.requires.positive
    c.read-change.ensures.request c.apply-unused.ensures.applied c.as_slice.ensures c.set.ensures refl
    c.in_ok-wake_product.ensures

pub wake_bidder-requires-clause-places : goal.wake_bidder-requires-clause-places
wake_bidder-requires-clause-places c = places_mid c.args.requests.now c.args.place c.args.room c.args.self.now
    c.wake_product.new.self c.wake_product.new.self c.read-change.result.now c.apply-unused.new.self
    c.as_slice.result.now c.set.new.self c.apply-unused.result (get_or c.as_slice.result.now c.args.place 0
    - c.args.room) c.requires.in_order c.requires.within c.requires.is_board c.requires.room c.requires.positive
    c.read-change.ensures.request c.apply-unused.ensures.applied c.as_slice.ensures c.set.ensures refl
    c.in_ok-wake_product.ensures
    (bidder_line c.read-change.result.now.bidder)

pub returns-clause-applied : goal.returns-clause-applied
returns-clause-applied c = on_ok_weaker c.wake_bidder.result (joined c.args.requests.now c.args.place c.args.room
    c.args.self.now
    c.wake_product.new.self c.wake_bidder.new.self c.read-change.result.now c.apply-unused.new.self
    c.as_slice.result.now c.set.new.self c.apply-unused.result (get_or c.as_slice.result.now c.args.place 0
    - c.args.room) c.requires.in_order c.requires.within c.requires.is_board c.requires.room c.requires.positive
    c.read-change.ensures.request c.apply-unused.ensures.applied c.as_slice.ensures c.set.ensures refl
    c.in_ok-wake_product.ensures
    c.requires.tracked c.apply-unused.ensures.unused) c.wake_bidder.ensures

pub returns-clause-reads : goal.returns-clause-reads
returns-clause-reads c = on_ok_weaker c.wake_bidder.result (λ applied. reads_applied c.args.requests.now c.args.place
    c.args.self.now c.wake_bidder.new.self c.args.reads.now c.read-change.new.reads applied c.requires.reads
    c.read-change.ensures.counted) (returns-clause-applied c)
