-- Proves that the page of a bidder's results has those of the closed round, and that another round is refused.
use Rattle.std.proofs.Common.{ap, ◌∙◌, ℕ, Option}
use Rattle.std.specs.Prelude.{option_map, option_and_then}
use Rattle.clock_house.specs.History.{slip_of, round_at}
use Rattle.clock_views.specs.BidderPages.{bidder_results_value}
use Rattle.clock_front.specs.Outcomes.{done, page_or_no_round, round_in}
use Rattle.clock_front.specs.Requests as asked
use Rattle.clock_front.proofs.OutcomeLaws.{found_page}
use Rattle.clock_front.proofs.PageLaws.{page_in}
use Rattle.clock_front.proofs.front.replies.bidder_results.Goals as goal

pub slip-requires : goal.slip-requires
slip-requires g c = c.requires

pub page_reply-requires : goal.page_reply-requires
page_reply-requires g c = (bidder_results_value c.in-Some-slip.slip.now, c.headed_bidder_results.ensures)

pub returns : goal.returns
returns g c =
    let house = c.args.house.now in
    let one = c.in-Some-slip.slip.now in
    let found = c.in-Some-slip.ensures.found ∙ ap (λ (n : Option ℕ). option_map (slip_of c.args.bidder)
    (option_and_then (λ n. round_at n house.closed) n)) c.in-Some.ensures in
    page_in (asked.bidder_results c.args.segment.now) c.page_reply.result (done (bidder_results_value one))
    (page_or_no_round (option_map
    (λ closed. bidder_results_value (slip_of c.args.bidder closed)) (round_in house c.args.segment.now)))
    (found_page bidder_results_value (slip_of c.args.bidder) (round_in house c.args.segment.now) one found)
    (c.page_reply.ensures (bidder_results_value one) c.headed_bidder_results.ensures)
