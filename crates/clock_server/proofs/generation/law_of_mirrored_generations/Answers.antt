use Rattle.clock_server.proofs.MirroredLaws.{mirrored}
use Rattle.clock_server.proofs.generation.law_of_mirrored_generations.Goals as goal

pub returns : goal.returns
returns c = mirrored c.law_of_mirrors.ensures.keep c.law_of_generations.ensures
