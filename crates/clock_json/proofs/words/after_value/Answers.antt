use Rattle.std.proofs.Common.{sym, ap, ◌∙◌}
use Rattle.json.specs.Lex.{after_value, punctuate}
use Rattle.clock_json.proofs.LexLaws.{comma_at, comma_follows}
use Rattle.clock_json.proofs.words.after_value.Goals as goal

pub returns-then-is_at : goal.returns-then-is_at
returns-then-is_at c =
    let there = c.is_at.ensures c.if-is_at.true in
    sym (comma_follows _ _ (comma_at c.args.bytes.now c.args.start there.0 there.1))

pub returns-then-is_at-2 : goal.returns-then-is_at-2
returns-then-is_at-2 c =
    let there = c.is_at-2.ensures c.if-is_at-2.true in
    sym (ap (punctuate after_value) (sym c.after_space-at.ensures)
    ∙ comma_follows _ _ (comma_at c.args.bytes.now c.after_space-at.result there.0 there.1))
