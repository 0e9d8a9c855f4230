use Rattle.std.proofs.Common.{sym}
use Rattle.clock_json.proofs.JsonLaws.{json_value, no_json}
use Rattle.clock_json.proofs.tree.read_value.Goals as goal

pub returns-in-Ok : goal.returns-in-Ok
returns-in-Ok c = let ok = c.in-Ok.ensures.ok in sym (json_value _ _ ok.0 ok.1)

pub returns-in-Err-2 : goal.returns-in-Err-2
returns-in-Err-2 c =
    sym (no_json _ (c.in-Err.ensures.err (λ is. (let bad = c.is_memory.ensures.1 is in cc))))

pub returns-then-is_blank : goal.returns-then-is_blank
returns-then-is_blank c = sym (no_json _ (λ _. c.is_blank.ensures c.if-is_blank.true))
