use Rattle.std.proofs.Common.{sym, ◌∙◌}
use Rattle.clock_views.proofs.Pushes.{added, before, headed, refused, together}
use Rattle.clock_views.proofs.Texts.{accepted_in_pieces}
use Rattle.clock_views.proofs.Rooms.{accepted_most}
use Rattle.clock_views.proofs.pages.headed_accepted.Goals as goal

pub returns : goal.returns
returns c =
    headed c.into_items.ensures c.in_ok-text.ensures.head
    (together (accepted_in_pieces c.args.round c.args.bids)
    (before c.push_number.ensures.adds
    (before c.push_number-2.ensures.adds (added c.extend_from_slice.ensures.items))))

pub returns-in_err-text : goal.returns-in_err-text
returns-in_err-text c = refused _ _ c.from_residual.result _ c.from_residual.ensures.1
    (c.in_err-text.ensures.refused ∙ sym (accepted_most c.args.round c.args.bids))
