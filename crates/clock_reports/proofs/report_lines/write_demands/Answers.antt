-- The text of a positive demand follows that of the demands of 0 before it, which is a prefix of `none`.
use Rattle.std.proofs.Common.{◌≡◌, ◌<◌, ◌≤◌, ◌+◌, ◌-◌, ◌*◌, ◌++◌, ℕ, List, [], append-nil, append_assoc, flat_map}
use Rattle.std.proofs.Common.{codes, decimal, drop, get_or, length, refl, take, sym, subst, ap, ◌∙◌, arith, ⊎_elim}
use Rattle.std.specs.List.{AllWithin}
use Rattle.std.proofs.lemmas.Bool.{cases_lt}
use Rattle.std.proofs.lemmas.List.{length-take}
use Rattle.clock_device.proofs.Buffers.{way_ends, way_on}
use Rattle.clock_reports.specs.Writers.{demand_text, none_held}
use Rattle.clock_reports.proofs.WonLaws.{front_of_none, length-none_held, none_left, one_held}
use Rattle.clock_reports.proofs.report_lines.write_demands.Goals as goal

-- two ranges of demands of 0 that meet are one range
joined : (row : List ℕ) (from between to : ℕ) → AllWithin (λ demand. demand ≡ 0) row from between
    → AllWithin (λ demand. demand ≡ 0) row between to → AllWithin (λ demand. demand ≡ 0) row from to
joined row from between to before behind k d low high = ⊎_elim (λ (early : k < between). before k d low early)
    (λ (late : between ≤ k). behind k d late high) (cases_lt k between)

-- the prefix that is copied is the text of the skipped products
zeros : (none : List ℕ) (many products : ℕ) → none ≡ none_held many → products ≤ many
    → take (2 * products) none ≡ none_held products
zeros none many products is few = ap (λ (text : List ℕ). take (2 * products) text) is ∙ front_of_none many products few

enough : (none : List ℕ) (many products : ℕ) → none ≡ none_held many → products ≤ many → 2 * products ≤ length none
enough none many products is few = omega (arith, few, ap (λ (text : List ℕ). length text) is, length-none_held many)

pub slice_bounds-put-end : goal.slice_bounds-put-end
slice_bounds-put-end g c =
    let row = c.args.demands.now in
    let many = c.in-Some.one.product - c.held.from in
    let within : many ≤ length row =
    omega (arith, c.in-Some.ensures.within, ap (λ (row : List ℕ). length row) c.held.invariant.row) in
    omega (arith, enough c.args.none.now (length row) many c.requires within, length-take (2 * many) c.args.none.now)

pub slice_bounds-put-end-2 : goal.slice_bounds-put-end-2
slice_bounds-put-end-2 g c =
    let row = c.args.demands.now in
    let many = c.len-products.result - c.held.from in
    let within : many ≤ length row = omega (arith, c.len-products.ensures.is) in
    omega (arith, enough c.args.none.now (length row) many c.requires within, length-take (2 * many) c.args.none.now)

pub overflow_add-from : goal.overflow_add-from
overflow_add-from g c =
    omega (
      arith,
      c.in-Some.ensures.within,
      ap (λ (row : List ℕ). length row) c.held.invariant.row,
      c.len-products.ensures.is,
      c.len-products.ensures.few,
    )

pub held-preserved : goal.held-preserved
held-preserved g c =
    let row = c.args.demands.now in
    let product = c.in-Some.one.product in
    let same = c.held.invariant.row in
    let found = c.in-Some.ensures in
    let within : product < length row = subst (λ (demands : List ℕ). product < length demands) same found.within in
    let between =
    subst (λ (demands : List ℕ). AllWithin (λ demand. demand ≡ 0) demands c.held.held.from product) same found.passed in
    let demand = found.demand ∙ ap (λ (demands : List ℕ). get_or demands product 0) same in
    let demand_is = c.in-Some.one.demand in
    let behind = flat_map demand_text (drop (product + 1) row) in
    let passed = joined row c.held.from c.held.held.from product c.held.invariant.passed between in
    let first = one_held row c.held.from product demand_is (omega (arith, c.held.invariant.order, found.least)) within
    passed demand ∙ ap (λ (copied : List ℕ). copied ++ (demand_text demand_is ++ behind)) (sym (zeros c.args.none.now
    (length row) (product - c.held.from) c.requires (omega (arith, within)))) in
    record {
      row = found.row ∙ same;
      order = omega (arith, found.given);
      within = omega (arith, within);
      passed = subst (λ (demands : List ℕ). AllWithin (λ demand. demand ≡ 0) demands
          (product + 1) c.next.new.self.from) same found.ahead;
      way = way_on _ _ _ _ _ (flat_map demand_text (drop (product + 1) row)) _ c.put-in-Some.ensures refl
          (way_on _ _ _ _ _ _ _ c.put_number.ensures (append_assoc (decimal demand_is) (codes " ") behind)
          (way_on _ _ _ _ _ _ _ c.put.ensures first c.held.invariant.way));
    }

pub returns : goal.returns
returns g c =
    let row = c.args.demands.now in
    let products = c.len-products.result in
    let same = c.held.invariant.row in
    let behind = subst (λ (demands : List ℕ). AllWithin (λ demand. demand ≡ 0) demands c.held.held.from
    (length demands)) same c.in_default.ensures.passed in
    let none : AllWithin (λ demand. demand ≡ 0) row c.held.held.from products =
    λ k d low high. behind k d low (omega (arith, high, c.len-products.ensures.is)) in
    let many = c.len-products.ensures.is in
    let left : flat_map demand_text (drop c.held.from row) ≡ none_held (length row - c.held.from) =
    none_left row c.held.from c.held.invariant.within (joined row c.held.from c.held.held.from (length row)
    c.held.invariant.passed (subst (AllWithin (λ demand. demand ≡ 0) row c.held.held.from) many none)) in
    let copied = zeros c.args.none.now (length row) (products - c.held.from) c.requires (omega (arith, many)) in
    let last = left ∙ ap (λ (n : ℕ). none_held (n - c.held.from)) (sym many) ∙ sym copied
    ∙ sym (append-nil (take (2 * (products - c.held.from)) c.args.none.now)) in
    way_ends _ _ [] _ refl (way_on _ _ _ _ _ _ _ c.put-2.ensures last c.held.invariant.way)
