-- Answers by name what the prover also finds by itself, so that it refuses a wrong body sooner.
use Rattle.std.proofs.Common.{rules}
use Rattle.clock_connections.proofs.connections.Connections.connect.Goals as goal

pub returns-clause-connected : goal.returns-clause-connected
returns-clause-connected c = search rules
