-- The end of the loop is the settlement.
use Rattle.std.proofs.Common.{List, map, sym, subst, ap, ◌∙◌}
use Rattle.clock_terms.specs.declared.change.Change.{Change}
use Rattle.clock_processor.specs.inside.UnderWay.{IsUnderWay, progress_of}
use Rattle.clock_processor.specs.Settling.{Settles}
use Rattle.clock_processor.specs.Settlement.{IsSettlement, SettledFields}
use Rattle.clock_processor.proofs.Apply.{under_way_start, settlement_reached}
use Rattle.clock_processor.proofs.ProperEnd.{proper_end, held_at_end}
use Rattle.clock_processor.proofs.plain.PlainProcessor.settle.Goals as goal

pub rescan-requires : goal.rescan-requires
rescan-requires c = subst (λ left. IsUnderWay c.args.board c.as_slice-2.result.now left 0) (sym (c.in_ok-left.ensures
    ∙ ap (λ (changes : List Change). map (λ (change : Change). change.amount) changes) c.as_slice.ensures))
    (subst (λ changes. IsUnderWay c.args.board changes (map (λ (change : Change). change.amount) c.args.changes.now) 0)
    (sym c.as_slice-2.ensures) (under_way_start c.args.board c.args.changes.now c.requires))

pub returns : goal.returns
returns c =
    let is : IsSettlement c.args.board c.args.changes.now c.end.result = settlement_reached c.args.board
    c.args.changes.now c.rescan.new.board c.rescan.new.left c.rescan.ensures.ended.0 c.end.result c.requires.applied
    (subst (λ left. Settles c.args.board.products c.args.board.eligibilities c.args.changes.now
    (progress_of c.args.board 0 left) (progress_of c.rescan.new.board c.rescan.ensures.ended.0 c.rescan.new.left))
    (c.in_ok-left.ensures ∙ ap (λ (changes : List Change). map (λ (change : Change). change.amount) changes)
    c.as_slice.ensures) (subst (λ changes. Settles c.args.board.products c.args.board.eligibilities changes
    (progress_of c.args.board 0 c.in_ok-left.left) (progress_of c.rescan.new.board c.rescan.ensures.ended.0
    c.rescan.new.left)) c.as_slice-2.ensures c.rescan.ensures.ended.1)) c.end.ensures.settled in
    record {
      settlement = is;
      proper = proper_end c.args.board c.args.changes.now c.end.result is
          (held_at_end c.args.board c.rescan.new.board c.end.result.grid c.rescan.ensures.terms
          (ap (λ (end : SettledFields). end.grid) c.end.ensures.settled) c.end.ensures.in_order);
    }
