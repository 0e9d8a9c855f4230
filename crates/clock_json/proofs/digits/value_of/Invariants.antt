use Rattle.clock_json.specs.inside.Digits.{HasCounted}
use Rattle.clock_json.proofs.digits.value_of.Given as goal

-- the digits so far are counted
abbrev pub invariant-loop-i : goal.invariant-loop-i
invariant-loop-i l = HasCounted l.bytes l.at l.count l.i l.value
