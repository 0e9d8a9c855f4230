use Rattle.std.proofs.Common.{◌∷◌, decimal, ap, ◌∙◌}
use Rattle.json.specs.Token.{begin_array, number}
use Rattle.json.specs.Lex.{token, comma}
use Rattle.clock_json.proofs.CompactLaws.{list_opens}
use Rattle.clock_json.proofs.compact.compact_triple_at.Goals as goal

pub returns-clause-value : goal.returns-clause-value
returns-clause-value c =
    let there = c.is_at.ensures c.if-not-is_at.false in
    list_opens c.args.bytes.now c.args.start there.0 there.1
    ∙ ap (λ r. token begin_array ∷ r) (c.in_ok-first.ensures.value
    ∙ ap (λ r. token (number (decimal c.in_ok-first.first)) ∷ comma ∷ r) (c.in_ok-second.ensures.value
    ∙ ap (λ r. token (number (decimal c.in_ok-second.second)) ∷ comma ∷ r) c.in_ok-third.ensures.value))

pub returns-clause-small : goal.returns-clause-small
returns-clause-small c = (c.in_ok-first.ensures.small, c.in_ok-second.ensures.small, c.in_ok-third.ensures.small)
