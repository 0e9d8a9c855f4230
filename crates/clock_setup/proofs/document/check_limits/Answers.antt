-- Part by part: the values before the products, the products, the bidders, and the distinct names and tokens. A fault
-- in one part is the first fault of the set-up if the parts before it pass.
use Rattle.std.proofs.Common.{◌≡◌, Bool, List, [], ◌∷◌, Option, None, sym, ap, ◌∙◌, subst}
use Rattle.std.proofs.lemmas.Result.{err_from_is_err_and}
use Rattle.clock_terms.specs.Faults.{first_fault, in_turn}
use Rattle.clock_terms.specs.Limits.{SetupFields, is_within, is_token, least_requirement, most_requirement}
use Rattle.clock_terms.specs.Limits.{least_limit, most_limit}
use Rattle.clock_setup.specs.declared.fault.SetupFault.{SetupFault}
use Rattle.clock_setup.specs.declared.fault.Place.TheVariants.{Requirement, Limit, Operator}
use Rattle.clock_setup.specs.inside.SetupDocument.{range_check, head_checks, products_checks, bidders_checks}
use Rattle.clock_setup.proofs.LimitLaws.{setup_within, head_first, products_first, bidders_first, distinct_decide}
use Rattle.clock_setup.proofs.document.check_limits.Goals as goal

-- the first fault of a list of the set-up that is read as a slice
first_of : {A : Type 0} {slice : List A} {inside setup : SetupFields} {first : Option SetupFault}
    (checks : List A → List (SetupFault × Bool)) (list : SetupFields → List A) → slice ≡ list inside → inside ≡ setup
    → first_fault (checks slice) ≡ first → first_fault (checks (list setup)) ≡ first
first_of checks list read same is = ap (λ items. first_fault (checks items)) (sym (read ∙ ap list same)) ∙ is

-- the tests of the code decide the first fault of the values before the products
head_of : {inside setup : SetupFields} {requirement limit operator : Bool} {first : Option SetupFault}
    → inside ≡ setup → requirement ≡ is_within least_requirement most_requirement inside.requirement
    → limit ≡ is_within least_limit most_limit inside.limit → operator ≡ is_token inside.operator
    → first_fault (in_turn range_check 0
    ((Requirement, requirement) ∷ (Limit, limit) ∷ (Operator, operator) ∷ [])) ≡ first
    → first_fault (head_checks setup) ≡ first
unfolding head_checks
head_of {first} same requirement limit operator is =
    subst (λ (setup : SetupFields). first_fault (head_checks setup) ≡ first) same
    (rw (sym requirement, sym limit, sym operator) is)

pub returns-in_err-check_each-clause-err : goal.returns-in_err-check_each-clause-err
returns-in_err-check_each-clause-err c =
    let p = err_from_is_err_and c.from_residual.result c.from_residual.ensures.1 in
    rw (p.1, p.2) (λ known. head_first c.args.entries.now _ (head_of c.entries.view_is c.is_within-requirement.ensures
    c.is_within-limit.ensures c.is_token.ensures c.in_err-check_each.ensures.err))

pub returns-in_err-check_all-clause-err : goal.returns-in_err-check_all-clause-err
unfolding products_checks bidders_checks
returns-in_err-check_all-clause-err c =
    let p = err_from_is_err_and c.from_residual-in_err-check_all.result c.from_residual-in_err-check_all.ensures.1 in
    rw (p.1, p.2) (λ known. products_first c.args.entries.now _
    (head_of c.entries.view_is c.is_within-requirement.ensures c.is_within-limit.ensures c.is_token.ensures
    c.in_ok-check_each.ensures.ok) (first_of products_checks
    (λ s. s.products) c.deref.ensures c.entries.view_is c.in_err-check_all.ensures.err))

pub returns-in_err-check_all-2-clause-err : goal.returns-in_err-check_all-2-clause-err
unfolding products_checks bidders_checks
returns-in_err-check_all-2-clause-err c =
    let residual = c.from_residual-in_err-check_all-2 in
    let p = err_from_is_err_and residual.result residual.ensures.1 in
    rw (p.1, p.2) (λ known. bidders_first c.args.entries.now _
    (head_of c.entries.view_is c.is_within-requirement.ensures c.is_within-limit.ensures c.is_token.ensures
    c.in_ok-check_each.ensures.ok)
    (first_of products_checks (λ s. s.products) c.deref.ensures c.entries.view_is c.in_ok-check_all.ensures.ok)
    (first_of bidders_checks (λ s. s.bidders) c.deref-2.ensures c.entries.view_is c.in_err-check_all-2.ensures.err))

pub returns-in_err-check_distinct-clause-err : goal.returns-in_err-check_distinct-clause-err
unfolding products_checks bidders_checks
returns-in_err-check_distinct-clause-err c =
    let residual = c.from_residual-in_err-check_distinct in
    let p = err_from_is_err_and residual.result residual.ensures.1 in
    rw (p.1, p.2) (λ known. distinct_decide c.args.entries.now _
    (head_of c.entries.view_is c.is_within-requirement.ensures c.is_within-limit.ensures c.is_token.ensures
    c.in_ok-check_each.ensures.ok) (first_of products_checks
    (λ s. s.products) c.deref.ensures c.entries.view_is c.in_ok-check_all.ensures.ok) (first_of bidders_checks (λ s.
    s.bidders) c.deref-2.ensures c.entries.view_is c.in_ok-check_all-2.ensures.ok)
    (c.in_err-check_distinct.ensures.err known))

pub returns-clause-within : goal.returns-clause-within
unfolding products_checks bidders_checks
returns-clause-within c = setup_within c.args.entries.now c.requires.version c.requires.first_version
    (head_of c.entries.view_is c.is_within-requirement.ensures c.is_within-limit.ensures c.is_token.ensures
    c.in_ok-check_each.ensures.ok) (first_of products_checks
    (λ s. s.products) c.deref.ensures c.entries.view_is c.in_ok-check_all.ensures.ok) (first_of bidders_checks
    (λ s. s.bidders) c.deref-2.ensures c.entries.view_is c.in_ok-check_all-2.ensures.ok)
    c.in_ok-check_distinct.ensures.ok

pub returns-clause-ok : goal.returns-clause-ok
unfolding products_checks bidders_checks
returns-clause-ok c = distinct_decide c.args.entries.now None
    (head_of c.entries.view_is c.is_within-requirement.ensures c.is_within-limit.ensures c.is_token.ensures
    c.in_ok-check_each.ensures.ok) (first_of products_checks
    (λ s. s.products) c.deref.ensures c.entries.view_is c.in_ok-check_all.ensures.ok) (first_of bidders_checks
    (λ s. s.bidders) c.deref-2.ensures c.entries.view_is c.in_ok-check_all-2.ensures.ok)
    c.in_ok-check_distinct.ensures.ok
