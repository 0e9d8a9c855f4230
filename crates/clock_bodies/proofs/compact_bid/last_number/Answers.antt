use Rattle.std.proofs.Common.{◌+◌, ◌∷◌, decimal, ap, ◌∙◌, arith}
use Rattle.std.proofs.lemmas.Bool.{eqb-true}
use Rattle.json.specs.Token.{number}
use Rattle.json.specs.Lex.{token}
use Rattle.clock_json.proofs.CompactLaws.{given, one_then}
use Rattle.clock_bodies.proofs.CompactBidLaws.{end_stands}
use Rattle.clock_bodies.proofs.compact_bid.last_number.Goals as goal

pub returns-in-Some-clause-small : goal.returns-in-Some-clause-small
returns-in-Some-clause-small c = c.in-Some.ensures.number.small

pub returns-in-Some-clause-value : goal.returns-in-Some-clause-value
returns-in-Some-clause-value c =
    let bytes = c.args.bytes.now in
    let start = c.args.start in
    let last = end_stands _ _ (one_then bytes (start + 1) (start + 2) 125 (omega (arith, c.requires))
    c.in-Some.ensures.mark (omega arith)) in
    c.in-Some.ensures.number.value last.0 ∙ ap (λ ls. token (number (decimal c.in-Some.digit)) ∷ ls) last.1

pub returns-clause-small : goal.returns-clause-small
returns-clause-small c = given _ _ _ _ c.then_some.ensures (λ _. c.in_ok-number.ensures.small)

pub returns-clause-order : goal.returns-clause-order
returns-clause-order c =
    let few = c.in_ok-number.ensures.few in
    given _ _ _ _ c.then_some.ensures (λ _. (omega (arith, few.0), omega (arith, c.requires, few.1)))

pub returns-clause-value : goal.returns-clause-value
returns-clause-value c =
    let bytes = c.args.bytes.now in
    let end = c.in_ok-number.end in
    given _ _ _ _ c.then_some.ensures (λ is.
    let last = end_stands _ _
    (one_then bytes end (end + 1) 125 (omega (arith, c.requires, c.in_ok-number.ensures.few.1))
    (eqb-true _ 125 is) (omega arith)) in
    c.in_ok-number.ensures.value last.0 ∙ ap (λ ls. token (number (decimal c.in_ok-number.number)) ∷ ls) last.1)
