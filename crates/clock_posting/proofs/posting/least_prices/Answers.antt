-- Proves that the loop builds the least posted price of each product, in order.
use Rattle.std.proofs.Common.{◌≡◌, ◌++◌, ◌∷◌, [], ℕ, List, map, ap, sym, ◌∙◌, arith}
use Rattle.std.specs.List.{range_with_len}
use Rattle.std.proofs.lemmas.List.FromFn.{map-range_with_len_more}
use Rattle.clock_posting.specs.inside.Parts.{least_price}
use Rattle.clock_posting.proofs.Excess.{least_above, least_within}
use Rattle.clock_posting.proofs.posting.least_prices.Goals.{then-excess, else-excess}
use Rattle.clock_posting.proofs.posting.least_prices.Goals as goal

pub loop-i-preserved : goal.loop-i-preserved
loop-i-preserved c =
    let i = c.loop-i.i in
    let f = least_price c.args.products.now c.args.prices.now c.args.grid.now in
    let prices = c.args.prices.now in
    let grid = c.args.grid.now in
    let product = c.index-products-i.result in
    let pair = c.index-prices-i.result in
    let here : c.if-excess.push ≡ f i = elim c.if-excess.branch [
      | then-excess w ↦ w.push-is ∙ least_above c.args.products.now prices grid i product pair c.loop-i-test.true
          c.requires.prices c.index-products-i.is c.index-prices-i.is (omega arith)
      | else-excess w ↦ w.push-is ∙ least_within c.args.products.now prices grid i product pair c.loop-i-test.true
          c.requires.prices c.index-products-i.is c.index-prices-i.is (omega arith)
    ] in
    record {
      so_far = c.push.ensures.items
          ∙ ap (λ (xs : List ℕ). xs ++ c.if-excess.push ∷ []) c.loop-i.invariant.so_far
          ∙ ap (λ (one : ℕ). map f (range_with_len 0 i) ++ one ∷ []) here
          ∙ sym (map-range_with_len_more f 0 i i (omega arith));
      room = omega (arith, c.loop-i.invariant.room, c.push.ensures.room);
    }
