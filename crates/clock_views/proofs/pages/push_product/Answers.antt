-- The pieces, one after the other, are the product's text.
use Rattle.clock_views.proofs.Pushes.{added, before, together}
use Rattle.clock_views.proofs.Texts.{product_in_pieces}
use Rattle.clock_views.proofs.pages.push_product.Goals as goal

pub returns-clause-adds : goal.returns-clause-adds
returns-clause-adds c =
    before c.push_comma_if.ensures.adds
    (together (product_in_pieces c.args.version c.args.product.now)
    (before c.push_number.ensures.adds
    (before (rw c.from_version_2-granule.ensures at c.push_number_if.ensures.adds)
    (before (rw c.as_slice.ensures at c.push_name.ensures.adds)
    (before (rw c.get.ensures.value at c.push_number-2.ensures.adds)
    (before c.push_number-3.ensures.adds
    (before c.push_number-4.ensures.adds (added c.extend_from_slice.ensures.items))))))))
