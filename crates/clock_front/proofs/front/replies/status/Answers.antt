-- Proves that the page of the status has the values of the rules, part by part.
use Rattle.std.proofs.Common.{ap, ◌∙◌, ℕ, Bool}
use Rattle.clock_terms.specs.Limits.{SetupFields, public_setup}
use Rattle.clock_house.specs.House.{state_in}
use Rattle.clock_views.specs.PublicPages.{status_value}
use Rattle.clock_front.specs.Outcomes.{done}
use Rattle.clock_front.specs.Requests.{status}
use Rattle.clock_front.proofs.PageLaws.{page_in}
use Rattle.clock_front.proofs.front.replies.status.Goals as goal

pub page_reply-requires : goal.page_reply-requires
page_reply-requires g c =
    (status_value (public_setup c.setup.result.now) c.round.result c.ended.result, c.headed_status.ensures)

pub returns : goal.returns
returns g c =
    let setup = c.args.house.now.setup in
    let now = state_in c.args.house.now in
    let shown = status_value (public_setup c.setup.result.now) c.round.result c.ended.result in
    page_in status c.page_reply.result (done shown) (done (status_value (public_setup setup) now.round now.ended))
    (ap (λ (one : SetupFields). done (status_value (public_setup one) c.round.result c.ended.result)) c.setup.ensures
    ∙ ap (λ (round : ℕ). done (status_value (public_setup setup) round c.ended.result)) c.round.ensures.is
    ∙ ap (λ (ended : Bool). done (status_value (public_setup setup) now.round ended)) c.ended.ensures.is)
    (c.page_reply.ensures shown c.headed_status.ensures)
