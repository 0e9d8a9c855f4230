-- The loop visits only positive demands: the demands of 0 between them are within every cap, and add nothing.
use Rattle.std.proofs.Common.{◌≡◌, ◌+◌, ◌<◌, ◌≤◌, List, ℕ, length, get_or, ap, subst, ◌∙◌, arith}
use Rattle.std.proofs.Common.{⊎_elim}
use Rattle.std.specs.List.{AllWithin}
use Rattle.std.proofs.lemmas.Bool.{cases_lt}
use Rattle.clock_terms.specs.Limits.{cap_of}
use Rattle.clock_setup.proofs.VisitLaws.{activity-passed, activity-none, so_far_more}
use Rattle.clock_setup.proofs.OpeningLaws.{capped_more, units_bounded, within_cap, zeros_capped}
use Rattle.clock_setup.proofs.opening_scan.capped_activity.Goals as goal

pub held-init : goal.held-init
held-init c = record {
  row = c.held-held.ensures.row;
  capped = λ k below. zeros_capped c.args.products.now c.args.row.now 0 c.held-held.result.from
      c.held-held.ensures.passed k (omega arith) below;
  so_far = omega (
    arith,
    activity-passed c.args.products.now c.args.row.now 0 c.held-held.result.from
        (omega arith) c.held-held.ensures.passed,
  );
  small = omega arith;
}

pub held-preserved : goal.held-preserved
held-preserved c =
    let products = c.args.products.now in
    let row = c.args.row.now in
    let place = c.in-Some.one.product in
    let old = c.held.held in
    let next = c.next.new.self in
    let found = c.in-Some.ensures in
    let one = c.index-products-one.result in
    let again = c.index-products-one-in-Some.result in
    let same = c.held.invariant.row in
    let within : place < length row = subst (λ (demands : List ℕ). place < length demands) same found.within in
    let demand : c.in-Some.one.demand ≡ get_or row place 0 =
    found.demand ∙ ap (λ (demands : List ℕ). get_or demands place 0) same in
    let here : get_or row place 0 ≤ cap_of products place =
    within_cap products place one (get_or row place 0) (omega (arith, within, c.requires.each))
    (omega (arith, demand, c.if-one-products.false)) in
    let none =
    subst (λ (demands : List ℕ). AllWithin (λ demand. demand ≡ 0) demands old.from place) same found.passed in
    let ahead =
    subst (λ (demands : List ℕ). AllWithin (λ demand. demand ≡ 0) demands (place + 1) next.from) same found.ahead in
    let passed = activity-passed products row old.from place found.least none in
    record {
      row = found.row ∙ same;
      capped = capped_more products row old.from place next.from c.held.invariant.capped none here ahead;
      so_far = so_far_more products row place again within c.requires.each c.held.total _ next.from _ demand
          (omega (arith, passed, c.held.invariant.so_far)) (omega (arith, found.given)) ahead;
      small = omega (
        arith,
        units_bounded products place again c.in-Some.one.demand c.requires.limits
            (omega (arith, within, c.requires.each)) found.small,
        c.held.invariant.small,
        found.least,
        found.given,
        within,
      );
    }

pub returns-clause-capped : goal.returns-clause-capped
returns-clause-capped c = λ k below.
    let row = c.args.row.now in
    let from = c.held.held.from in
    let none = subst (λ (demands : List ℕ). AllWithin (λ demand. demand ≡ 0) demands from (length demands))
    c.held.invariant.row c.in_default.ensures.passed in
    ⊎_elim
    (λ (before : k < from). c.held.invariant.capped k before)
    (λ (behind : from ≤ k). zeros_capped c.args.products.now row from (length row) none k behind below)
    (cases_lt k from)

pub returns-clause-exact : goal.returns-clause-exact
returns-clause-exact c =
    let row = c.args.row.now in
    let none = subst (λ (demands : List ℕ). AllWithin (λ demand. demand ≡ 0) demands c.held.held.from (length demands))
    c.held.invariant.row c.in_default.ensures.passed in
    omega (arith, c.held.invariant.so_far, activity-none c.args.products.now row c.held.held.from none)
