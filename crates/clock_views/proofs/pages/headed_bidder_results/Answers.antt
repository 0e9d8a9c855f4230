use Rattle.std.proofs.Common.{arith}
use Rattle.clock_views.proofs.Pushes.{added, before, headed, refused, together}
use Rattle.clock_views.proofs.Texts.{slip_in_pieces}
use Rattle.clock_views.proofs.Rooms.{slip_most}
use Rattle.clock_views.proofs.pages.headed_bidder_results.Goals as goal

pub returns : goal.returns
returns c =
    headed c.into_items.ensures c.in_ok-text.ensures.head
    (together (slip_in_pieces c.args.slip.now)
    (before c.push_number.ensures.adds
    (before (rw c.held.ensures.row at c.push_demands.ensures.adds)
    (before c.push_number-2.ensures.adds
    (before c.push_number-3.ensures.adds (added c.extend_from_slice.ensures.items))))))

pub returns-in_err-text : goal.returns-in_err-text
returns-in_err-text c = refused _ _ c.from_residual.result _ c.from_residual.ensures.1
    (omega (arith, c.in_err-text.ensures.refused, slip_most c.args.slip.now, c.len.ensures.is))
