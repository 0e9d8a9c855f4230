-- The entry at the index that was found has the product's demand; a product without an entry has a demand of 0.
use Rattle.std.proofs.Common.{IfOk, IfErr, sym, subst}
use Rattle.clock_terms.specs.declared.held_list.PositiveDemand.{PositiveDemand}
use Rattle.clock_terms.specs.inside.Rows.{IsAtIndex, BelongsAtIndex}
use Rattle.clock_terms.proofs.HeldLaws.{found, missing, small_at}
use Rattle.clock_terms.proofs.held_list.demand_at.Goals as goal

-- the default entry, in the form of the goals
abbrev none : PositiveDemand
none = record { product = 0; demand = 0 }

pub returns-in-Ok-clause-is : goal.returns-in-Ok-clause-is
returns-in-Ok-clause-is c =
    let held = c.args.held.now in
    let stands = subst (λ place. IfOk place (λ at. IsAtIndex held c.args.product at)) c.in-Ok.is c.requires.stands in
    sym (found held c.args.product c.in-Ok.place none stands.0.1 stands.1 (stands.2 none))

pub returns-in-Ok-clause-small : goal.returns-in-Ok-clause-small
returns-in-Ok-clause-small c =
    let held = c.args.held.now in
    let stands = subst (λ place. IfOk place (λ at. IsAtIndex held c.args.product at)) c.in-Ok.is c.requires.stands in
    small_at 0 held c.requires.held.0 c.in-Ok.place none c.requires.held.1 stands.1

pub returns-in-Err-clause-is : goal.returns-in-Err-clause-is
returns-in-Err-clause-is c =
    let held = c.args.held.now in
    let lacks =
    subst (λ place. IfErr place (λ at. BelongsAtIndex held c.args.product at)) c.in-Err.is c.requires.lacks in
    sym (missing 0 held c.requires.held.0 c.args.product c.in-Err.field-0 none c.requires.held.1
    lacks.0.1 (lacks.1 none))
