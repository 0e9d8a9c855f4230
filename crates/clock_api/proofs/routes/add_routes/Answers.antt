-- The inserts, one after the other, make the table.
use Rattle.std.proofs.Common.{codes, ◌∙◌, ap}
use Rattle.clock_api.specs.declared.routes.Page.TheVariants.{Status, Products, RoundResults, Account, Bids}
use Rattle.clock_api.specs.declared.routes.Page.TheVariants.{BidderResults, Close, Results}
use Rattle.clock_api.specs.inside.Routing.{with_route, table}
use Rattle.clock_api.proofs.routes.add_routes.Goals as goal

pub returns : goal.returns
unfolding table
returns c =
    let status = c.in_ok-add_route.ensures ∙ ap (with_route (codes "/v1/status") Status) c.requires in
    let products = c.in_ok-add_route-2.ensures ∙ ap (with_route (codes "/v1/products") Products) status in
    let sheet = c.in_ok-add_route-3.ensures ∙ ap (with_route (codes "/v1/rounds/{n}") RoundResults) products in
    let account = c.in_ok-add_route-4.ensures ∙ ap (with_route (codes "/v1/me") Account) sheet in
    let bids = c.in_ok-add_route-5.ensures ∙ ap (with_route (codes "/v1/me/bids") Bids) account in
    let slip = c.in_ok-add_route-6.ensures ∙ ap (with_route (codes "/v1/me/rounds/{n}") BidderResults) bids in
    let close = c.in_ok-add_route-7.ensures ∙ ap (with_route (codes "/v1/close") Close) slip in
    c.in_ok-add_route-8.ensures ∙ ap (with_route (codes "/v1/results") Results) close
