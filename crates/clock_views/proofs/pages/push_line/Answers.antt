-- The pieces, one after the other, are the line's text.
use Rattle.clock_views.proofs.Pushes.{added, before, together}
use Rattle.clock_views.proofs.Texts.{line_in_pieces}
use Rattle.clock_views.proofs.pages.push_line.Goals as goal

pub returns-clause-adds : goal.returns-clause-adds
returns-clause-adds c =
    before c.push_comma_if.ensures.adds
    (together (line_in_pieces c.args.product.now c.args.line.now)
    (before (rw c.get.ensures.value at c.push_number.ensures.adds)
    (before c.push_number_or_null.ensures.adds
    (before (rw c.as_slice.ensures at c.push_name.ensures.adds)
    (before c.push_number_or_null-2.ensures.adds
    (before (rw c.get-2.ensures.value at c.push_number-2.ensures.adds)
    (before (rw c.get-3.ensures.value at c.push_number-3.ensures.adds)
    (added c.extend_from_slice.ensures.items))))))))
