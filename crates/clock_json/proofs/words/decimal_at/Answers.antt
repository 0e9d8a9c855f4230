use Rattle.std.proofs.Common.{arith}
use Rattle.clock_json.proofs.LexLaws.{ends_at}
use Rattle.clock_json.proofs.words.decimal_at.Goals as goal

pub returns-clause-value : goal.returns-clause-value
returns-clause-value c = c.in_ok-n.ensures.value (ends_at c.args.bytes.now c.in_ok-n.end
    (omega (arith, c.in_ok-n.ensures.few.1, c.if-end-bytes.false)) (c.ends_word.ensures c.if-not-ends_word.false))
