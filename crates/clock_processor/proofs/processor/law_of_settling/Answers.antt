use Rattle.clock_processor.proofs.End.{ends_there}
use Rattle.clock_processor.proofs.processor.law_of_settling.Goals as goal

pub returns : goal.returns
returns c = ends_there
