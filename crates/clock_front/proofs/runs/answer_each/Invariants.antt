use Rattle.std.proofs.Common.{take}
use Rattle.clock_front.proofs.RunLaws.{IsUnderWay}
use Rattle.clock_front.proofs.runs.answer_each.Given as goal

-- The requests so far are a run, and the front stands for those that were not left out.
abbrev pub invariant-loop-text : goal.invariant-loop-text
invariant-loop-text g l = IsUnderWay l.fn.front.setup (take l.text-index l.texts) l.replies l.front
