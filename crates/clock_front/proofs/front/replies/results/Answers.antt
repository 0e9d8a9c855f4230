-- Proves the bytes of the page of all results.
use Rattle.clock_views.specs.OperatorPages.{results_value}
use Rattle.clock_front.proofs.front.replies.results.Goals as goal

pub page_reply-requires : goal.page_reply-requires
page_reply-requires g c = (results_value c.args.house.now, c.headed_results.ensures)

pub returns : goal.returns
unfolding results_value
returns g c = c.page_reply.ensures (results_value c.args.house.now) c.headed_results.ensures
