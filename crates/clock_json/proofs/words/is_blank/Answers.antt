use Rattle.std.proofs.Common.{arith}
use Rattle.clock_json.proofs.Steps.{blank_more, all_blank}
use Rattle.clock_json.proofs.words.is_blank.Goals as goal

pub loop-byte-preserved : goal.loop-byte-preserved
loop-byte-preserved c = blank_more c.args.bytes.now c.loop-byte.byte-index c.loop-byte.has_other
    c.is_space-in-loop-byte.result (omega arith) c.is_space-in-loop-byte.ensures c.loop-byte.invariant

pub returns : goal.returns
returns c = all_blank c.args.bytes.now c.loop-byte.byte-index c.loop-byte.has_other (omega arith) c.loop-byte.invariant
