use Rattle.std.proofs.Common.{sym, ap, ◌∙◌, arith}
use lib.Count.{count_trailing_zeros}
use Rattle.clock_json.proofs.PlainLaws.{goes_through, stops_there}
use Rattle.clock_json.proofs.words.plain_end.Goals as goal

pub returns-then-found-ne0 : goal.returns-then-found-ne0
returns-then-found-ne0 c =
    let found = c.stops-found in
    let run = stops_there c.args.bytes.now c.text.end (omega arith) (omega (arith, found.ensures))
    ∙ ap (count_trailing_zeros 64) (sym found.ensures) in
    omega (arith, run, c.text.invariant.0)

pub text-preserved : goal.text-preserved
text-preserved c =
    let run = goes_through c.args.bytes.now c.text.end (omega arith) (omega (arith, c.stops-found.ensures)) in
    (omega (arith, run, c.text.invariant.0), omega arith)
