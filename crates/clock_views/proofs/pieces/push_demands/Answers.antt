use Rattle.std.proofs.Common.{◌≡◌, ◌<◌, ◌≤◌, ◌+◌, ◌++◌, ◌∷◌, [], false, ℕ, List, append_assoc, length, get_or, nat_lt}
use Rattle.std.proofs.Common.{sym, subst, ap, ◌∙◌, arith, ⊎_elim}
use Rattle.std.proofs.lemmas.Bool.{cases_lt}
use Rattle.std.proofs.lemmas.List.{drop_all}
use Rattle.std.specs.List.{AllWithin}
use Rattle.clock_views.specs.Values.{whole}
use Rattle.clock_views.specs.inside.Values.{rest_text}
use Rattle.clock_views.proofs.Lists.{item_more}
use Rattle.clock_views.proofs.Pushes.{added, before}
use Rattle.clock_views.proofs.pieces.push_demands.Goals as goal

-- no demand is positive from one index to a third, if none is up to a second and none from there on
joined : (row : List ℕ) (from between to : ℕ) → AllWithin (λ demand. demand ≡ 0) row from between
    → AllWithin (λ demand. demand ≡ 0) row between to → AllWithin (λ demand. demand ≡ 0) row from to
joined row from between to before behind k d low high = ⊎_elim (λ (early : k < between). before k d low early)
    (λ (late : between ≤ k). behind k d late high) (cases_lt k between)

pub push_zeros-requires-clause-order : goal.push_zeros-requires-clause-order
push_zeros-requires-clause-order c = omega (arith, c.held.invariant.order, c.in-Some.ensures.least)

pub push_zeros-requires-clause-room : goal.push_zeros-requires-clause-room
push_zeros-requires-clause-room c =
    omega (
      arith,
      c.in-Some.ensures.least,
      c.in-Some.ensures.within,
      ap (λ (row : List ℕ). length row) c.held.invariant.row,
    )

pub push_comma_if-requires : goal.push_comma_if-requires
push_comma_if-requires c =
    omega (
      arith,
      c.in-Some.ensures.least,
      c.in-Some.ensures.within,
      ap (λ (row : List ℕ). length row) c.held.invariant.row,
    )

pub push_number-requires : goal.push_number-requires
push_number-requires c =
    omega (
      arith,
      c.in-Some.ensures.least,
      c.in-Some.ensures.within,
      c.push_comma_if.ensures.room,
      ap (λ (row : List ℕ). length row) c.held.invariant.row,
    )

pub held-preserved : goal.held-preserved
held-preserved c =
    let row = c.args.held.demands in
    let product = c.in-Some.one.product in
    let same = c.held.invariant.row in
    let within : product < length row =
    subst (λ (demands : List ℕ). product < length demands) same c.in-Some.ensures.within in
    let between = subst (λ (demands : List ℕ). AllWithin (λ demand. demand ≡ 0) demands c.held.held.from product) same
    c.in-Some.ensures.passed in
    let demand = c.in-Some.ensures.demand ∙ ap (λ (demands : List ℕ). get_or demands product 0) same in
    record {
      row = c.in-Some.ensures.row ∙ same;
      order = omega (arith, c.in-Some.ensures.given);
      within = omega (arith, within);
      passed = subst (λ (demands : List ℕ). AllWithin (λ demand. demand ≡ 0) demands (product + 1) c.next.new.self.from)
          same c.in-Some.ensures.ahead;
      adds = item_more whole _ _ row product c.in-Some.one.demand 0 within demand (before c.push_comma_if.ensures.adds
          (added c.push_number.ensures.items)) ∙ c.push_zeros.ensures.adds row (omega (arith, within))
          (joined row c.held.from c.held.held.from product c.held.invariant.passed between) ∙ c.held.invariant.adds;
      room = omega (
        arith,
        c.push_comma_if.ensures.room,
        c.push_number.ensures.room,
        c.push_zeros.ensures.room,
        c.held.invariant.room,
        c.held.invariant.order,
        c.in-Some.ensures.least,
      );
    }

pub returns-clause-adds : goal.returns-clause-adds
returns-clause-adds c =
    let row = c.args.held.demands in
    let products = c.products-products.result in
    let same = c.held.invariant.row in
    let text = c.args.text.now.items in
    let label = c.args.label.now in
    let rest = rest_text whole false row in
    let behind = subst (λ (demands : List ℕ). AllWithin (λ demand. demand ≡ 0) demands c.held.held.from
    (length demands)) same c.in_default.ensures.passed in
    let none : AllWithin (λ demand. demand ≡ 0) row c.held.held.from products =
    λ k d low high. behind k d low (omega (arith, high, c.products-products.ensures)) in
    record {
      is = c.push-2.ensures.items ∙ ap (λ list. c.push_zeros-2.new.text.items ++ rest_text whole
          (nat_lt 0 products) list) (sym (drop_all products row (omega (arith, c.products-products.ensures))))
          ∙ c.push_zeros-2.ensures.adds row (omega (arith, c.products-products.ensures)) (joined row c.held.from
          c.held.held.from products c.held.invariant.passed none) ∙ c.held.invariant.adds ∙ ap (λ front. front ++ rest)
          (c.push.ensures.items ∙ ap (λ front. front ++ 91 ∷ []) c.extend_from_slice.ensures.items)
          ∙ append_assoc (text ++ label) (91 ∷ []) rest ∙ append_assoc text label (91 ∷ rest);
    }
