-- A positive demand is one more entry; a demand of 0 is none.
use Rattle.std.proofs.Common.{◌+◌, List, sym, ap, subst, ◌∙◌, arith}
use Rattle.clock_terms.specs.declared.held_list.PositiveDemand.{PositiveDemand}
use Rattle.clock_terms.specs.HeldDemands.{demand_for}
use Rattle.clock_terms.specs.inside.Rows.{ArePositiveDemands}
use Rattle.clock_terms.proofs.HeldLaws.{held_more, held_push, none_behind, push_here, push_other}
use Rattle.clock_terms.proofs.held_list.hold.Goals as goal

pub returns-then-demand-eq0-clause-order : goal.returns-then-demand-eq0-clause-order
returns-then-demand-eq0-clause-order c =
    held_more 0 c.args.held.now.items c.args.product (c.args.product + 1) c.requires.order (omega arith)

pub returns-then-demand-eq0-clause-here : goal.returns-then-demand-eq0-clause-here
returns-then-demand-eq0-clause-here c =
    none_behind 0 c.args.held.now.items c.args.product c.args.product c.requires.order (omega arith)
    ∙ omega (arith, c.if-demand-eq0.true)

pub returns-clause-order : goal.returns-clause-order
returns-clause-order c =
    let one : PositiveDemand = record { product = c.args.product; demand = c.args.demand } in
    subst (λ (list : List PositiveDemand). ArePositiveDemands 0 list (c.args.product + 1))
    (sym c.in_ok-push.ensures.items)
    (held_push 0 c.args.held.now.items c.args.product one c.requires.order (omega arith)
    (omega (arith, c.if-demand-eq0.false)) c.requires.small)

pub returns-clause-here : goal.returns-clause-here
returns-clause-here c =
    let one : PositiveDemand = record { product = c.args.product; demand = c.args.demand } in
    ap (λ (list : List PositiveDemand). demand_for list c.args.product) c.in_ok-push.ensures.items
    ∙ push_here 0 c.args.held.now.items c.args.product one c.requires.order (omega arith)

pub returns-clause-others : goal.returns-clause-others
returns-clause-others c = λ other below.
    let one : PositiveDemand = record { product = c.args.product; demand = c.args.demand } in
    ap (λ (list : List PositiveDemand). demand_for list other) c.in_ok-push.ensures.items
    ∙ push_other c.args.held.now.items one other (λ same. omega (arith, same, below))
