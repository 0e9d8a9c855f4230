use Rattle.std.proofs.Common.{arith, ◌∙◌}
use Rattle.clock_scripts.specs.RequestTexts.{tie_value}
use Rattle.clock_scripts.proofs.ArrayLaws.{array_done, comma_more}
use Rattle.clock_scripts.proofs.bodies.push_ties.Goals as goal

pub returns : goal.returns
returns c = array_done tie_value c.args.ties.now c.args.text.now.items c.loop-tie.text.items c.end_array.new.text.items
    c.len-start.result c.loop-tie.tie-index c.end_array.result
    (omega (arith, c.len-start.ensures, c.args.text.now.ok.0)) (omega arith) c.loop-tie.invariant c.end_array.ensures

pub loop-tie-preserved : goal.loop-tie-preserved
loop-tie-preserved c =
    comma_more tie_value c.args.ties.now c.loop-tie.tie-index _ _ _ (omega arith)
    c.in_ok-push_tie.ensures ∙ c.loop-tie.invariant
