use Rattle.std.specs.Prelude.{All}
use Rattle.std.proofs.Common.{take}
use Rattle.clock_processor.specs.Requests.{IsRequest}
use Rattle.clock_rules_tests.proofs.settle.are_requests.Given as goal

-- each change so far is a request
abbrev pub invariant-loop-change : goal.invariant-loop-change
invariant-loop-change l = All (IsRequest l.bidders l.products) (take l.change-index l.changes)
