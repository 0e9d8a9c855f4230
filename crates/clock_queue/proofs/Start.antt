-- The start of bid processing: no request is admitted, ready, or waiting.
use Rattle.std.proofs.Common.{◌≡◌, ℕ, zero, suc, ◌<◌, List, [], map, refl, sym, subst, arith, get_or, replicate, All}
use Rattle.std.proofs.lemmas.List.{length-replicate}
use Rattle.std.proofs.lemmas.List.Elements.{All-nil}
use Rattle.clock_terms.specs.declared.setup.Product.{Product}
use Rattle.clock_terms.specs.declared.change.Change.{Change}
use Rattle.clock_processor.specs.Board.{BoardFields}
use Rattle.clock_processor.specs.Requests.{CanSettle}
use Rattle.clock_processor.proofs.Apply.{under_way_start}
use Rattle.clock_queue.specs.declared.queue.Queue.{Queue}
use Rattle.clock_queue.specs.inside.Lines.{HasLines, LineFields, empty_line}
use Rattle.clock_queue.specs.inside.Queue.{HasSoundLines, IsLine, IsTracking}

-- every line is empty
nobody : (n line : ℕ) → get_or (replicate n empty_line) line empty_line ≡ empty_line
nobody zero line = refl
nobody (suc n) zero = refl
nobody (suc n) (suc line) = nobody n line

empty : (changes : List Change) (products : List Product) (left : List ℕ) (line : ℕ)
    → IsLine changes products left 0 line empty_line
empty changes products left line = record {
  lengths = refl;
  members = λ at lt. absurd (omega (arith, lt));
  ascending = λ one other less lt. absurd (omega (arith, lt));
  costs = λ at lt. absurd (omega (arith, lt));
}

kept_at_start : (board : BoardFields) (changes : List Change) (n : ℕ) → CanSettle board changes
    → All (HasLines n) changes →
    HasSoundLines changes (record {
      board = board;
      left = map (λ change. change.amount) changes;
      admitted = 0;
      ready = [];
      lines = replicate n empty_line;
    })
kept_at_start board changes n can lines = record {
  under_way = under_way_start board changes can;
  lines = subst (λ count. All (HasLines count) changes) (sym (length-replicate n empty_line)) lines;
  ready = All-nil (λ place. place < 0);
  each = λ line. subst (IsLine changes board.products (map (λ change. change.amount) changes) 0 line)
      (sym (nobody n line)) (empty changes board.products (map (λ change. change.amount) changes) line);
  waiting = λ place lt. absurd (omega (arith, lt));
}

-- the invariants hold of the lists that `settle` makes
pub started : (board : BoardFields) (changes : List Change) (n : ℕ) (left ready : List ℕ) (lines : List LineFields)
    → CanSettle board changes → All (HasLines n) changes → left ≡ map (λ change. change.amount) changes → ready ≡ []
    → lines ≡ replicate n empty_line
    → HasSoundLines changes (record { board = board; left = left; admitted = 0; ready = ready; lines = lines })
started board changes n left ready lines can enough left_is ready_is lines_are =
    let same : ◌≡◌ {A = Queue} (record {
      board = board;
      left = map (λ change. change.amount) changes;
      admitted = 0;
      ready = [];
      lines = replicate n empty_line;
    }) (record { board = board; left = left; admitted = 0; ready = ready; lines = lines }) =
    λ k.
    record { board = board; left = sym left_is k; admitted = 0; ready = sym ready_is k; lines = sym lines_are k } in
    subst (HasSoundLines changes) same (kept_at_start board changes n can enough)

-- no request is admitted, so none has to be ready
pub nothing_tracked : (changes : List Change) (queue : Queue) → queue.admitted ≡ 0
    → IsTracking changes queue queue.ready
nothing_tracked changes queue none = λ place lt. absurd (omega (arith, lt, none))
