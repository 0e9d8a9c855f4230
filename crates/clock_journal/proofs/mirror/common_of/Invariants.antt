use Rattle.std.proofs.Common.{◌≡◌, take}
use Rattle.clock_journal.proofs.mirror.common_of.Given as goal

-- so far, both have the same bytes
abbrev pub invariant-loop-place : goal.invariant-loop-place
invariant-loop-place l = take l.place l.one ≡ take l.place l.other
