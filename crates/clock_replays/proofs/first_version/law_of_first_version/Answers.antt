-- FirstVersionLaws proves the law.
use Rattle.clock_replays.proofs.FirstVersionLaws.{of_first_version}
use Rattle.clock_replays.proofs.first_version.law_of_first_version.Goals as goal

pub returns : goal.returns
returns c = of_first_version
