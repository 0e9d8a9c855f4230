-- An insert that succeeds sorts the route in.
use Rattle.clock_api.proofs.RouteLaws.{added}
use Rattle.clock_api.proofs.routes.add_route.Goals as goal

pub returns : goal.returns
returns c = added _ _ _ _ _ c.in-Ok.ensures
