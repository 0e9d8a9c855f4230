-- A path that is not UTF-8 has no page. For others, the look-up finds the page of the route.
use Rattle.std.proofs.Common.{None}
use Rattle.clock_api.proofs.RouteLaws.{page_seen, no_page}
use Rattle.clock_api.proofs.routes.Routes.page_of.Goals as goal

pub returns-in_default : goal.returns-in_default
returns-in_default c = no_page _ c.in_default.ensures.cases.0

pub returns-in_default-at : goal.returns-in_default-at
returns-in_default-at c =
    let text = c.in-Ok.ensures.cases in
    page_seen _ _ _ None text.0 text.1 c.args.self.now.routed c.in_default-at.ensures.missing

pub returns : goal.returns
returns c =
    let text = c.in-Ok.ensures.cases in
    page_seen _ _ _ _ text.0 text.1 c.args.self.now.routed c.in-Ok-at.ensures.found
