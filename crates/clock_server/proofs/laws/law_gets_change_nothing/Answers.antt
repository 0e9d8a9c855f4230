use Rattle.clock_server.proofs.Gets.{gets_change_nothing}
use Rattle.clock_server.proofs.laws.law_gets_change_nothing.Goals as goal

pub returns : goal.returns
returns c = gets_change_nothing
