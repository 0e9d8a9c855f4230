use Rattle.clock_json.proofs.CompactLaws.{both_then}
use Rattle.clock_json.proofs.compact.has_both.Goals as goal

pub returns-then-has_eight : goal.returns-then-has_eight
returns-then-has_eight c = λ more. both_then c.args.bytes.now c.args.at c.args.part c.args.first.now c.args.second.now
    (c.has_eight.ensures c.if-has_eight.true) (c.has_four.ensures more)
