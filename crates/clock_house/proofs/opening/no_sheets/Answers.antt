-- Proves that the loop builds a list without sheets.
use Rattle.std.proofs.Common.{◌++◌, ◌∷◌, [], ap, sym, ◌∙◌, arith}
use Rattle.std.specs.Prelude.{None}
use Rattle.std.proofs.lemmas.List.FromFn.{map-range_with_len_more}
use Rattle.clock_house.proofs.opening.no_sheets.Goals as goal

pub push-requires : goal.push-requires
push-requires c = omega (arith, c.loop-bidder.invariant.room, c.loop-bidder-test.true)

pub loop-bidder-preserved : goal.loop-bidder-preserved
loop-bidder-preserved c = record {
  items = c.push.ensures.items ∙ ap (λ xs. xs ++ None ∷ []) c.loop-bidder.invariant.items
      ∙ sym (map-range_with_len_more (λ bidder. None) 0 c.loop-bidder._bidder c.loop-bidder._bidder (omega arith));
  room = omega (arith, c.loop-bidder.invariant.room, c.push.ensures.room);
}
