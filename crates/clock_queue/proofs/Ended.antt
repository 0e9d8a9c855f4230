-- Bid processing has ended if all requests are admitted and none is ready.
use Rattle.std.proofs.Common.{◌≡◌, ℕ, ◌+◌, ◌≤◌, List, [], map, ap, sym, subst, arith, length, sum, sum_by}
use Rattle.clock_terms.specs.declared.change.Change.{Change}
use Rattle.clock_processor.specs.Board.{BoardFields, IsBoard}
use Rattle.clock_processor.specs.Requests.{CanSettle}
use Rattle.clock_processor.specs.Settling.{Reaches, HasEnded}
use Rattle.clock_processor.specs.Settlement.{SettledFields, IsSettlement, IsProperEnd}
use Rattle.clock_processor.specs.inside.UnderWay.{progress_of}
use Rattle.clock_processor.proofs.Apply.{settlement_reached}
use Rattle.clock_processor.proofs.ProperEnd.{proper_end, held_at_end}
use Rattle.clock_queue.specs.declared.queue.Queue.{Queue}
use Rattle.clock_queue.specs.inside.Queue.{HasSoundLines, IsTracking, StaysWithinReads, StaysWithinTests}
use Rattle.clock_queue.specs.inside.Queue.{progress}
use Rattle.clock_queue.specs.Bound.{IsWithinBlocks, IsWithinReads, IsWithinTests}
use Rattle.clock_queue.proofs.ReadBounds.{reads_at_end}
use Rattle.clock_queue.proofs.Steps.{ends}

-- what bid processing returns at its end
abbrev pub handed_on : Queue → SettledFields
handed_on queue =
    record { grid = queue.board.grid; left = queue.left; applied = queue.board.applied; tests = queue.board.tests }

-- what holds of a queue when every request is admitted
pub record IsDone (board : BoardFields) (changes : List Change) (queue : Queue) : Type 0 where
  pub in_order : HasSoundLines changes queue
  pub tracked : IsTracking changes queue queue.ready
  pub counts : StaysWithinTests changes queue
  pub blocks : queue.board.applied + sum queue.left ≤ sum_by (λ (change : Change). change.amount) changes
  pub none : queue.ready ≡ []
  pub admitted : queue.admitted ≡ length changes
  pub products : queue.board.products ≡ board.products
  pub eligibilities : queue.board.eligibilities ≡ board.eligibilities
  pub reached : Reaches board.products board.eligibilities changes
      (progress_of board 0 (map (λ change. change.amount) changes)) (progress queue)

module _ (board : BoardFields) (changes : List Change) (queue : Queue) (end : SettledFields)
    (done : IsDone board changes queue) (is : end ≡ handed_on queue) where
  has_ended : HasEnded board.products board.eligibilities changes (progress queue)
  has_ended =
      subst (λ products. HasEnded products board.eligibilities changes (progress queue)) done.products
      (subst (λ eligibilities. HasEnded queue.board.products eligibilities changes (progress queue)) done.eligibilities
      (ends changes queue done.in_order done.tracked done.none done.admitted))

  pub is_settlement : CanSettle board changes → IsSettlement board changes end
  is_settlement can = settlement_reached board changes queue.board queue.left queue.admitted end can.applied
      (done.reached, has_ended) is

  pub is_proper : CanSettle board changes → IsBoard queue.board.products queue.board.eligibilities queue.board.grid
      → IsProperEnd board changes end
  is_proper can in_order = proper_end board changes end (is_settlement can) (held_at_end board queue.board end.grid
      (done.products, done.eligibilities) (ap (λ (one : SettledFields). one.grid) is) in_order)

  pub is_within : IsWithinTests changes end
  is_within = subst (IsWithinTests changes) (sym is) (omega (arith, done.counts, done.admitted, ap length done.none))

  pub is_within_blocks : IsWithinBlocks changes end
  is_within_blocks = subst (IsWithinBlocks changes) (sym is) done.blocks

  pub is_within_reads : (reads : ℕ) → StaysWithinReads changes queue reads → IsWithinReads changes end reads
  is_within_reads reads within = reads_at_end changes end reads is_within (omega (
    arith,
    within,
    done.admitted,
    ap (λ (one : SettledFields). one.tests) is,
    ap (λ (one : SettledFields). one.applied) is,
  ))
