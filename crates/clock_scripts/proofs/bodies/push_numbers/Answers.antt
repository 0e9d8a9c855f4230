use Rattle.std.proofs.Common.{arith}
use Rattle.clock_views.specs.Values.{whole}
use Rattle.clock_scripts.proofs.ArrayLaws.{array_done}
use Rattle.clock_scripts.proofs.bodies.push_numbers.Goals as goal

pub returns : goal.returns
returns c = array_done whole c.args.numbers.now c.args.text.now.items c.loop-number.text.items
    c.end_array.new.text.items c.len-start.result c.loop-number.number-index c.end_array.result
    (omega (arith, c.len-start.ensures, c.args.text.now.ok.0)) (omega arith) c.loop-number.invariant c.end_array.ensures
