use Rattle.std.proofs.Common.{sym, ◌∙◌}
use Rattle.clock_json.proofs.LexLaws.{space_at}
use Rattle.clock_json.proofs.words.after_space.Goals as goal

pub space-preserved : goal.space-preserved
space-preserved c =
    space_at c.args.bytes.now c.space.at c.space-test.true (sym c.if-not-is_space.ensures) ∙ c.space.invariant
