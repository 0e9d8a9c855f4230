use Rattle.clock_queue.proofs.Counts.{each_line}
use Rattle.clock_queue.proofs.queue.law_of_tests.Goals as goal

pub returns : goal.returns
returns c = each_line
