-- Proves the bytes of the page of an accepted sheet.
use Rattle.clock_views.specs.BidderPages.{accepted_value}
use Rattle.clock_front.specs.Outcomes.{answer_of, done}
use Rattle.clock_front.proofs.PageLaws.{if_page}
use Rattle.clock_front.proofs.front.replies.accepted.Goals as goal

pub page_reply-requires : goal.page_reply-requires
page_reply-requires c = (accepted_value c.args.round c.args.bids, c.headed_accepted.ensures)

pub returns : goal.returns
returns c =
    let shown = accepted_value c.args.round c.args.bids in
    if_page c.page_reply.result (answer_of (done shown)) _ (c.page_reply.ensures shown c.headed_accepted.ensures)
