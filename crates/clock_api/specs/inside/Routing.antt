-- The router's table, in which a path is looked up.
--     table      the eight routes, in the order in which matchit stores them
--     page_at path      the page of the route that a path has
use Rattle.std.specs.Prelude.{ℕ, List, [], Option, option_map, Result, Ok, Err, codes}
use Rattle.matchit.specs.Rows.{RowsOf}
use Rattle.matchit.specs.Order.{placed}
use Rattle.matchit.specs.Router.{RouteOf, route_from}
use Rattle.matchit.specs.Route.{Scan, parse_route}
use Rattle.matchit.specs.Seek.{first}
use Rattle.matchit.specs.declared.error.InsertError.{InsertError}
use Rattle.clock_api.specs.declared.routes.Page.{Page}
use Rattle.clock_api.specs.declared.routes.Page.TheVariants.{Status, Products, Account, Bids, Close}
use Rattle.clock_api.specs.declared.routes.Page.TheVariants.{RoundResults, BidderResults, Results}

abbrev pub Table : Type 0
Table = RowsOf (RouteOf Page)

abbrev pub with_scan : Result Scan InsertError → Page → Table → Table
with_scan (Err e) page routes = routes
with_scan (Ok s) page routes = placed (s.pattern, route_from s page) routes

-- the table with one more route, sorted in
abbrev pub with_route : List ℕ → Page → Table → Table
with_route text page routes = with_scan (parse_route text) page routes

-- the routes of all pages
unfoldable pub table : Table
table =
    with_route (codes "/v1/results") Results
    (with_route (codes "/v1/close") Close
    (with_route (codes "/v1/me/rounds/{n}") BidderResults
    (with_route (codes "/v1/me/bids") Bids
    (with_route (codes "/v1/me") Account
    (with_route (codes "/v1/rounds/{n}") RoundResults
    (with_route (codes "/v1/products") Products
    (with_route (codes "/v1/status") Status [])))))))

-- the page of the route that a path has
abbrev pub page_at : List ℕ → Option Page
page_at path = option_map (λ r. r.value) (first table path)
