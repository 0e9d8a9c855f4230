-- What holds at every end of bid processing.
use Rattle.std.proofs.Common.{◌≡◌, ℕ, zero, suc, ◌+◌, ◌-◌, ◌<◌, ◌≤◌, List, [], ◌∷◌, Bool, true, false}
use Rattle.std.proofs.Common.{cond, refl, ap, sym, subst, ◌∙◌, arith, get_or, set, length, take, All}
use Rattle.std.specs.Prelude.{Option, Some, None, nat_lt, zip, map, EachIndex, slice_index, slice_index_or}
use Rattle.std.specs.List.{position_from}
use Rattle.std.proofs.lemmas.Bool.{ltb-false}
use Rattle.std.proofs.lemmas.Option.{none-some}
use Rattle.std.proofs.lemmas.List.{length-set}
use Rattle.clock_terms.specs.declared.setup.Product.{Product}
use Rattle.clock_terms.specs.Demands.{total_of}
use Rattle.clock_terms.specs.declared.change.Change.{Change}
use Rattle.clock_processor.specs.Room.{room}
use Rattle.clock_processor.specs.Board.{BoardFields, IsBoard, IsWithinEligibility, MayApply}
use Rattle.clock_processor.specs.Settling.{Progress, next_by, first_with_room, room_at, with_application}
use Rattle.clock_processor.specs.Settling.{with_admission, HasEnded, Settles, no_change, settled, start_of}
use Rattle.clock_processor.specs.Requests.{IsRequest, CanSettle}
use Rattle.clock_processor.specs.Settlement.{SettledFields, IsSettlement, IsProperEnd, end_of}
use Rattle.clock_processor.specs.inside.UnderWay.{StaysWithinCaps}
use Rattle.clock_processor.proofs.Cases.{set_cases}
use Rattle.clock_processor.proofs.Supply.{settled_supplied}
use Rattle.clock_processor.proofs.Kept.{settled_keep}
use Rattle.clock_processor.proofs.End.{has_room, settled_ended, settled_settles}
use Rattle.clock_processor.proofs.BoardKept.{board_applied}
use Rattle.clock_processor.proofs.Apply.{may_apply, caps_after, caps_at_start, length_amounts}

-- if a search finds nothing, the test fails at each index that it reads
module _ {A B : Type 0} (test : A × B → Bool) (d : A) (e : B) where
  here_fails : (passes : Bool) (k : ℕ) (rest : Option ℕ) → cond passes (Some k) rest ≡ None
      → (passes ≡ false) × (rest ≡ None)
  here_fails true k rest h = absurd (none-some k (sym h))
  here_fails false k rest h = (refl, h)

  fails_at : (k n : ℕ) (xs : List A) (ys : List B) → position_from test k (take n (zip xs ys)) ≡ None → (j : ℕ) → j < n
      → j < length xs → j < length ys → test (get_or xs j d, get_or ys j e) ≡ false
  fails_at k zero xs ys h j a b c = absurd (omega (arith, a))
  fails_at k (suc n) [] ys h j a b c = absurd (omega (arith, b))
  fails_at k (suc n) (x ∷ xs) [] h j a b c = absurd (omega (arith, c))
  fails_at k (suc n) (x ∷ xs) (y ∷ ys) h zero a b c = (here_fails (test (x, y)) k _ h).0
  fails_at k (suc n) (x ∷ xs) (y ∷ ys) h (suc j) a b c = fails_at (k + 1) n xs ys (here_fails (test (x, y)) k _ h).1 j
      (omega (arith, a)) (omega (arith, b)) (omega (arith, c))

module _ (products : List Product) (eligibilities : List ℕ) (changes : List Change) where
  -- at the end, all requests are admitted and none has room
  ended_by : (s : Progress) (choice : Option ℕ) (more : Bool) → next_by products eligibilities changes s choice ≡ None →
      nat_lt s.admitted (length changes) ≡ more →
      (choice ≡ None) × (length changes ≤ s.admitted)
  ended_by s (Some i) more ended is = absurd (none-some _ (sym ended))
  ended_by s None true ended is = absurd (none-some _
      (sym (ap (λ b. cond b (Some (with_admission products eligibilities changes s)) None) (sym is) ∙ ended)))
  ended_by s None false ended is = (refl, ltb-false s.admitted (length changes) is)

  no_room : (s : Progress) → HasEnded products eligibilities changes s → length s.left ≡ length changes → (i : ℕ)
      → i < length changes → room_at products eligibilities changes s i ≡ 0
  no_room s ended each i lt =
      let done : (first_with_room products eligibilities changes s ≡ None) × (length changes ≤ s.admitted) =
      ended_by s (first_with_room products eligibilities changes s) (nat_lt s.admitted (length changes)) ended refl in
      let fails : nat_lt 0 (room_at products eligibilities changes s i) ≡ false =
      fails_at (λ line. nat_lt 0 (room products eligibilities s.grid line.0 line.1)) no_change 0 0 s.admitted changes
      s.left done.0 i (omega (arith, done.1, lt)) lt (omega (arith, each, lt)) in
      omega (arith, ltb-false 0 (room_at products eligibilities changes s i) fails)

  -- each request has at most its amount left, in blocks
  pub record IsLeft (left : List ℕ) : Type 0 where
    pub lengths : length left ≡ length changes
    pub within : EachIndex changes (λ i. slice_index left i ≤ (slice_index_or changes i no_change).amount)

  -- this holds if blocks are taken from one request
  left_reduced : (left : List ℕ) (i r : ℕ) → i < length left → IsLeft left → IsLeft (set left i (get_or left i 0 - r))
  left_reduced left i r lt was = record {
    lengths = length-set left i (get_or left i 0 - r) ∙ was.lengths;
    within = set_cases (λ j n. j < length changes → n ≤ (get_or changes j no_change).amount) left i
        (get_or left i 0 - r) 0 lt (λ i_in. omega (arith, was.within i i_in)) (λ j _. was.within j);
  }

  amount_at : (list : List Change) (i : ℕ) → i < length list
      → get_or (map (λ change. change.amount) list) i 0 ≡ (get_or list i no_change).amount
  amount_at [] i lt = absurd (omega (arith, lt))
  amount_at (x ∷ xs) zero lt = refl
  amount_at (x ∷ xs) (suc i) lt = amount_at xs i (omega (arith, lt))

  pub settled_left : (grid : List (List ℕ)) → IsLeft (settled products eligibilities changes grid).left
  settled_left grid = settled_keep products eligibilities changes (λ s. IsLeft s.left)
      (λ s i chosen was. left_reduced s.left i (room_at products eligibilities changes s i)
      (has_room products eligibilities changes s i chosen).1 was) (λ s more was. was) grid
      (record { lengths = length_amounts changes; within = λ i lt. omega (arith, amount_at changes i lt) })

  pub settled_no_room : (grid : List (List ℕ)) (i : ℕ) → i < length changes →
      room_at products eligibilities changes (settled products eligibilities changes grid) i ≡ 0
  settled_no_room grid i lt = no_room (settled products eligibilities changes grid)
      (settled_ended products eligibilities changes grid) (settled_left grid).lengths i lt

  settled_admitted : (grid : List (List ℕ)) → (settled products eligibilities changes grid).admitted ≤ length changes
  settled_admitted grid =
      settled_keep products eligibilities changes (λ s. s.admitted ≤ length changes) (λ s i chosen was. was)
      (λ s more was. omega (arith, more)) grid (omega arith)

  -- at the end, all requests are admitted
  pub all_admitted : (grid : List (List ℕ)) → (settled products eligibilities changes grid).admitted ≡ length changes
  all_admitted grid =
      let end : Progress = settled products eligibilities changes grid in
      let done : (first_with_room products eligibilities changes end ≡ None) × (length changes ≤ end.admitted) =
      ended_by end (first_with_room products eligibilities changes end) (nat_lt end.admitted (length changes))
      (settled_ended products eligibilities changes grid) refl in
      omega (arith, done.1, settled_admitted grid)

-- An end is proper if it is the settlement and its demands are those of a board.
pub proper_end : (board : BoardFields) (changes : List Change) (end : SettledFields) → IsSettlement board changes end →
    IsWithinEligibility board.products board.eligibilities end.grid → IsProperEnd board changes end
proper_end board changes end is held =
    let final : Progress = settled board.products board.eligibilities changes board.grid in
    let left : IsLeft board.products board.eligibilities changes end.left =
    subst (IsLeft board.products board.eligibilities changes) (sym is.left)
    (settled_left board.products board.eligibilities changes board.grid) in
    let is_end : end_of changes end ≡ final =
    λ k. record {
      admitted = sym (all_admitted board.products board.eligibilities changes board.grid) k;
      left = is.left k;
      grid =
          is.grid k;
      applied = is.applied k;
    } in
    record {
      settles = subst (Settles board.products board.eligibilities changes (start_of board.products board.eligibilities
          changes board.grid)) (sym is_end) (settled_settles board.products board.eligibilities changes board.grid);
      lengths = left.lengths;
      left = left.within;
      no_room = λ i lt. ap (λ grid. room board.products board.eligibilities grid (get_or changes i no_change)
          (get_or end.left i 0)) is.grid ∙ ap (λ (list : List ℕ). room board.products board.eligibilities final.grid
          (get_or changes i no_change) (get_or list i 0)) is.left
          ∙ settled_no_room board.products board.eligibilities changes board.grid i lt;
      supply = λ product. omega (
        arith,
        settled_supplied board.products board.eligibilities changes board.grid product,
        ap (λ grid. total_of grid product) is.grid,
      );
      within = held;
    }

-- By definition only: bid processing of a board ends with demands within the caps and eligibilities.
module _ (products : List Product) (eligibilities : List ℕ) (changes : List Change)
    (requests : All (IsRequest (length eligibilities) (length products)) changes) where
  -- the demands are those of a board, and with all that is left they stay within 0 and the caps
  record IsHeld (s : Progress) : Type 0 where
    is_board : IsBoard products eligibilities s.grid
    lengths : length s.left ≡ length changes
    caps : StaysWithinCaps products s.grid changes s.left

  held_applied : (s : Progress) (i : ℕ) → first_with_room products eligibilities changes s ≡ Some i → IsHeld s →
      IsHeld (with_application products eligibilities changes s i)
  held_applied s i chosen was =
      let found : (i < length changes) × (i < length s.left) × (0 < room_at products eligibilities changes s i) =
      has_room products eligibilities changes s i chosen in
      let board : BoardFields =
      record { products = products; eligibilities = eligibilities; grid = s.grid; applied = 0; tests = 0 } in
      let may : MayApply board (get_or changes i no_change) (room_at products eligibilities changes s i) =
      may_apply board changes s.left i found.0 was.lengths requests was.is_board was.caps found.2 in
      record {
        is_board = board_applied board (get_or changes i no_change)
            (room_at products eligibilities changes s i) was.is_board may;
        lengths = length-set s.left i (get_or s.left i 0 - room_at products eligibilities changes s i) ∙ was.lengths;
        caps = caps_after board changes s.left i found.0 was.lengths requests was.is_board was.caps;
      }

  settled_held : (grid : List (List ℕ)) → IsBoard products eligibilities grid →
      StaysWithinCaps products grid changes (map (λ change. change.amount) changes) →
      IsBoard products eligibilities (settled products eligibilities changes grid).grid
  settled_held grid is caps =
      (settled_keep products eligibilities changes IsHeld held_applied
      (λ s more was. record { is_board = was.is_board; lengths = was.lengths; caps = was.caps }) grid
      (record { is_board = is; lengths = length_amounts changes; caps = caps })).is_board

pub settled_board : (board : BoardFields) (changes : List Change)
    → IsBoard board.products board.eligibilities board.grid → CanSettle board changes
    → IsBoard board.products board.eligibilities (settled board.products board.eligibilities changes board.grid).grid
settled_board board changes is can = settled_held board.products board.eligibilities changes can.requests board.grid is
    (caps_at_start board.products board.grid changes can.caps)

-- the end has the demands of a board with the same products and eligibilities
pub held_at_end : (old new : BoardFields) (grid : List (List ℕ))
    → (new.products ≡ old.products) × (new.eligibilities ≡ old.eligibilities) → grid ≡ new.grid
    → IsBoard new.products new.eligibilities new.grid → IsWithinEligibility old.products old.eligibilities grid
held_at_end old new grid terms same is =
    subst (λ products. IsWithinEligibility products old.eligibilities grid) terms.0
    (subst (λ eligibilities. IsWithinEligibility new.products eligibilities grid) terms.1
    (subst (IsWithinEligibility new.products new.eligibilities) (sym same) is.within))
