use Rattle.std.proofs.Common.{◌+◌, ◌∷◌, decimal, ap, ◌∙◌, arith}
use Rattle.std.proofs.lemmas.Bool.{eqb-true}
use Rattle.json.specs.Token.{number}
use Rattle.json.specs.Lex.{token}
use Rattle.clock_json.proofs.CompactLaws.{given, one_then, comma_stands}
use Rattle.clock_json.proofs.digits.number_and_comma.Goals as goal

pub returns-clause-order : goal.returns-clause-order
returns-clause-order c =
    let room = c.has_room.ensures c.if-not-has_room.false in
    let few = c.in_ok-n.ensures.few in
    given _ _ _ _ c.then_some.ensures (λ _. (omega (arith, few.0), omega (arith, room, few.1)))

pub returns-clause-small : goal.returns-clause-small
returns-clause-small c = given _ _ _ _ c.then_some.ensures (λ _. c.in_ok-n.ensures.small)

pub returns-clause-value : goal.returns-clause-value
returns-clause-value c =
    let bytes = c.args.bytes.now in
    let end = c.in_ok-n.end in
    let room = c.has_room.ensures c.if-not-has_room.false in
    given _ _ _ _ c.then_some.ensures (λ is.
    let mark = comma_stands _ _
    (one_then bytes end (end + 1) 44 (omega (arith, room, c.in_ok-n.ensures.few.1)) (eqb-true _ 44 is) (omega arith)) in
    c.in_ok-n.ensures.value mark.0 ∙ ap (λ ls. token (number (decimal c.in_ok-n.n)) ∷ ls) mark.1)

pub returns-in-Some-clause-value : goal.returns-in-Some-clause-value
returns-in-Some-clause-value c =
    let bytes = c.args.bytes.now in
    let at = c.args.at in
    let room = c.has_room.ensures c.if-not-has_room.false in
    let mark =
    comma_stands _ _ (one_then bytes (at + 1) (at + 2) 44 (omega (arith, room)) c.in-Some.ensures.mark (omega arith)) in
    c.in-Some.ensures.number.value mark.0 ∙ ap (λ ls. token (number (decimal c.in-Some.n)) ∷ ls) mark.1
