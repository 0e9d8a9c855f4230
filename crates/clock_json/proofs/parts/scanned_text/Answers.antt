use Rattle.std.proofs.Common.{ap, ◌∙◌}
use Rattle.json.specs.Lex.{tokens}
use Rattle.clock_json.proofs.Steps.{text_is}
use Rattle.clock_json.proofs.parts.scanned_text.Goals as goal

pub returns-in-Ok-clause-value : goal.returns-in-Ok-clause-value
returns-in-Ok-clause-value g c = text_is g.R.PartReader.levels c.args.bytes.now c.new-scan.result c.part.new.scan
    (g.R.PartReader.shown c.in-Ok.part) c.requires
    (c.new-scan.ensures ∙ ap tokens c.in-Some.ensures.same) c.in-Ok.ensures.value (c.ends.ensures c.if-ends.true)
