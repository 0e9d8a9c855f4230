-- Proves the bytes of the page of a closed round.
use Rattle.clock_views.specs.OperatorPages.{closed_value}
use Rattle.clock_front.specs.Outcomes.{answer_of, done}
use Rattle.clock_front.proofs.PageLaws.{if_page}
use Rattle.clock_front.proofs.front.replies.closed.Goals as goal

pub page_reply-requires : goal.page_reply-requires
page_reply-requires c = (closed_value c.args.round c.args.ended, c.headed_closed.ensures)

pub returns : goal.returns
returns c =
    let shown = closed_value c.args.round c.args.ended in
    if_page c.page_reply.result (answer_of (done shown)) _ (c.page_reply.ensures shown c.headed_closed.ensures)
