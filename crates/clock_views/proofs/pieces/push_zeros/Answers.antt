use Rattle.std.proofs.Common.{sym, ◌∙◌, arith}
use Rattle.clock_views.specs.Values.{whole}
use Rattle.clock_views.proofs.Lists.{item_more}
use Rattle.clock_views.proofs.Pushes.{added, before}
use Rattle.clock_views.proofs.pieces.push_zeros.Goals as goal

pub loop-product-preserved : goal.loop-product-preserved
loop-product-preserved c =
    let product = c.loop-product.product in
    record {
      adds = λ row within none.
          item_more whole _ _ row product 0 0 (omega (arith, within, c.loop-product-test.true))
          (sym (none product 0 c.loop-product.auto.product c.loop-product-test.true))
          (before c.push_comma_if.ensures.adds (added c.push_number.ensures.items))
          ∙ c.loop-product.invariant.adds row within none;
      room = omega (
        arith,
        c.push_comma_if.ensures.room,
        c.push_number.ensures.room,
        c.loop-product.invariant.room,
        c.loop-product.auto.product,
      );
    }
