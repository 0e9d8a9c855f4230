-- Proves that the page of a sheet in force has the values of the rules, part by part.
use Rattle.std.proofs.Common.{ap, ◌∙◌, ℕ, List, Option, None}
use Rattle.std.specs.Prelude.{option_copied, slice_index_or}
use Rattle.clock_bids.specs.declared.sheet.Bid.{Bid}
use Rattle.clock_house.specs.House.{state_in}
use Rattle.clock_views.specs.BidderPages.{bids_value}
use Rattle.clock_front.specs.Outcomes.{done}
use Rattle.clock_front.specs.Requests as asked
use Rattle.clock_front.proofs.PageLaws.{page_in}
use Rattle.clock_front.proofs.front.replies.bids.Goals as goal

pub bids-requires : goal.bids-requires
bids-requires g c = c.requires

pub page_reply-requires : goal.page_reply-requires
page_reply-requires g c = (bids_value c.round.result (option_copied c.bids.result), c.headed_bids.ensures)

pub returns : goal.returns
returns g c =
    let house = c.args.house.now in
    let shown = bids_value c.round.result (option_copied c.bids.result) in
    page_in asked.bids c.page_reply.result (done shown)
    (done (bids_value (state_in house).round (slice_index_or house.sheets c.args.bidder None)))
    (ap (λ (round : ℕ). done (bids_value round (option_copied c.bids.result))) c.round.ensures.is
    ∙ ap (λ (sheet : Option (List Bid)). done (bids_value (state_in house).round sheet)) c.bids.ensures.is)
    (c.page_reply.ensures shown c.headed_bids.ensures)
