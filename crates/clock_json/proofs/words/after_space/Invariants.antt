use Rattle.std.proofs.Common.{◌≡◌, ◌-◌, length, drop}
use Rattle.json.specs.Lex.{lex, between}
use Rattle.clock_json.proofs.words.after_space.Given as goal

abbrev pub invariant-space : goal.invariant-space
invariant-space l = lex between (drop l.at l.bytes) ≡ lex between (drop l.start l.bytes)

abbrev pub decreases-space : goal.decreases-space
decreases-space l = length l.bytes - l.at
