use Rattle.clock_json.proofs.TreeLaws.{counted}
use Rattle.clock_json.proofs.tree.has_members.Goals as goal

pub returns-in-Some : goal.returns-in-Some
returns-in-Some c = counted _ _ _ _ c.len.ensures.len c.in-Some.ensures
