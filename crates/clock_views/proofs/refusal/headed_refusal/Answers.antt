use Rattle.clock_views.proofs.Pushes.{added, before, headed, together}
use Rattle.clock_views.proofs.Codes.{refusal_in_pieces}
use Rattle.clock_views.proofs.refusal.headed_refusal.Goals as goal

pub returns-clause-page : goal.returns-clause-page
returns-clause-page c =
    rw (← c.refusal.view_is)
    (headed c.into_items.ensures c.in_ok-text.ensures.head
    (together (refusal_in_pieces _)
    (before (added c.extend_from_slice.ensures.items)
    (before (added (rw (c.as_bytes.ensures.value, c.text.ensures) at c.extend_from_slice-2.ensures.items))
    (before (added c.extend_from_slice-3.ensures.items)
    (before c.push_number_if.ensures.adds
    (before c.push_number_if-2.ensures.adds
    (before (rw (c.from.ensures, c.status.ensures) at c.push_number.ensures.adds)
    (added c.extend_from_slice-4.ensures.items)))))))))
