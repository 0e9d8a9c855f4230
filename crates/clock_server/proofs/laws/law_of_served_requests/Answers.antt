use Rattle.clock_server.proofs.LeftOut.{can_be_left_out, served_is_run}
use Rattle.clock_server.proofs.laws.law_of_served_requests.Goals as goal

pub returns-clause-left_out : goal.returns-clause-left_out
returns-clause-left_out c = can_be_left_out

pub returns-clause-run : goal.returns-clause-run
returns-clause-run c = served_is_run
