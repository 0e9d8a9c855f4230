use Rattle.std.proofs.Common.{◌∷◌, decimal, ap, ◌∙◌, arith}
use Rattle.std.proofs.lemmas.Bool.{and_parts, eqb-true}
use Rattle.json.specs.Token.{number}
use Rattle.json.specs.Lex.{token}
use Rattle.clock_json.proofs.CompactLaws.{given, list_ends}
use Rattle.clock_json.proofs.compact.third_at.Goals as goal

pub returns-clause-small : goal.returns-clause-small
returns-clause-small c = given _ _ _ _ c.then_some.ensures (λ _. c.in_ok-number.ensures.small)

pub returns-clause-value : goal.returns-clause-value
returns-clause-value c =
    let bytes = c.args.bytes.now in
    let end = c.in_ok-number.end in
    let room = c.has_room.ensures c.if-not-has_room.false in
    given _ _ _ _ c.then_some.ensures (λ is.
    let marks = and_parts _ _ is in
    let last = list_ends bytes end (omega (arith, room, c.in_ok-number.ensures.few.1)) (eqb-true _ 93 marks.0)
    (eqb-true _ 44 marks.1) in
    c.in_ok-number.ensures.value last.0 ∙ ap (λ ls. token (number (decimal c.in_ok-number.number)) ∷ ls) last.1)
