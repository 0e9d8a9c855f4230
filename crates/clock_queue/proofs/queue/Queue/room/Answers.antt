-- The board counts one test.
use Rattle.std.proofs.Common.{ap}
use Rattle.clock_processor.specs.Board.{BoardFields}
use Rattle.clock_queue.specs.declared.queue.Queue.{Queue}
use Rattle.clock_queue.proofs.queue.Queue.room.Goals as goal

pub returns-clause-counted : goal.returns-clause-counted
returns-clause-counted c =
    let with_board : BoardFields → Queue = λ board. record c.args.self.now { board = board } in
    ap with_board c.room.ensures.counted
