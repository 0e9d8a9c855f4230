use Rattle.clock_server.proofs.GenerationLaws.{generations}
use Rattle.clock_server.proofs.generation.law_of_generations.Goals as goal

pub returns : goal.returns
returns c = generations
