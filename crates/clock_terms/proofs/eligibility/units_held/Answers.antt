-- The loop visits only positive demands: the demands of 0 between them add nothing.
use Rattle.std.proofs.Common.{◌≡◌, ◌+◌, ◌<◌, List, ℕ, length, min, get_or, ap, subst, ◌∙◌, arith}
use Rattle.std.specs.List.{AllWithin}
use Rattle.clock_terms.proofs.Zeros.{activity-passed, activity-none, so_far_more, small_more}
use Rattle.clock_terms.proofs.eligibility.units_held.Goals as goal

pub held-init : goal.held-init
held-init c = record {
  row = c.held-held.ensures.row;
  so_far = omega (
    arith,
    activity-passed c.args.products.now c.args.row.now 0 c.held-held.result.from
        (omega arith) c.held-held.ensures.passed,
  );
  small = omega arith;
}

pub held-preserved : goal.held-preserved
held-preserved c =
    let products = c.args.products.now in
    let row = c.args.row.now in
    let place = c.in-Some.one.product in
    let old = c.held.held in
    let next = c.next.new.self in
    let found = c.in-Some.ensures in
    let one = c.index-products-one.result in
    let same = c.held.invariant.row in
    let within : place < length row = subst (λ (demands : List ℕ). place < length demands) same found.within in
    let passed = activity-passed products row old.from place found.least
    (subst (λ (demands : List ℕ). AllWithin (λ demand. demand ≡ 0) demands old.from place) same found.passed) in
    record {
      row = found.row ∙ same;
      so_far = so_far_more products row place one within c.requires.row.each c.held.total _ next.from _
          (found.demand ∙ ap (λ (demands : List ℕ). get_or demands place 0) same)
          (omega (arith, passed, c.held.invariant.so_far)) (omega (arith, found.given)) (subst
          (λ (demands : List ℕ). AllWithin (λ demand. demand ≡ 0) demands (place + 1) next.from) same found.ahead);
      small = small_more products row place one within c.requires.row.each c.held.total (min next.from (length row)) _
          (found.demand ∙ ap (λ (demands : List ℕ). get_or demands place 0) same) c.requires.limits c.requires.row
          (omega (arith, c.held.invariant.small, found.least)) (omega (arith, found.given, within));
    }

pub returns-clause-exact : goal.returns-clause-exact
returns-clause-exact c =
    let row = c.args.row.now in
    let none = subst (λ (demands : List ℕ). AllWithin (λ demand. demand ≡ 0) demands c.held.held.from (length demands))
    c.held.invariant.row c.in_default.ensures.passed in
    omega (arith, c.held.invariant.so_far, activity-none c.args.products.now row c.held.held.from none)
