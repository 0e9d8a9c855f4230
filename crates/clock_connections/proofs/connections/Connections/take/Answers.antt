-- Answers by name what the prover also finds by itself, so that it refuses a wrong body sooner.
use Rattle.std.proofs.Common.{rules}
use Rattle.clock_connections.proofs.connections.Connections.take.Goals as goal

pub returns-clause-short : goal.returns-clause-short
returns-clause-short c = search rules
