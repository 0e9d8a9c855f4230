use Rattle.std.proofs.Common.{◌≡◌, false, drop}
use Rattle.json.specs.Lex.{lex, between}
use Rattle.clock_json.proofs.words.is_blank.Given as goal

abbrev pub invariant-loop-byte : goal.invariant-loop-byte
invariant-loop-byte l = l.has_other ≡ false → lex between (drop l.byte-index l.bytes) ≡ lex between l.bytes
