-- One step of the loop writes the next positive demand. The demands of 0 before it have cells of 0.
use Rattle.std.proofs.Common.{◌≡◌, ◌+◌, ◌∙◌, ◌<◌, ◌≤◌, ℕ, List, length, replicate, ap, subst, get_or}
use Rattle.std.proofs.Common.{⊎_elim, arith, rules}
use Rattle.std.proofs.lemmas.Bool.{cases_lt}
use Rattle.std.proofs.lemmas.List.{ext_get_or, get_or-replicate, length-replicate, length-set}
use Rattle.std.specs.List.{AllWithin}
use Rattle.clock_terms.specs.declared.held_list.PositiveDemand.{PositiveDemand}
use Rattle.clock_terms.specs.HeldDemands.{demands_of}
use Rattle.clock_terms.proofs.HeldLaws.{length-demands}
use Rattle.clock_terms.proofs.Zeros.{added_more, ahead_more}
use Rattle.clock_terms.proofs.row.Row.cells.Goals as goal

-- the cells before the loop: a 0 for each product of the row
module _ (count : ℕ) (held : List PositiveDemand) (row cells : List ℕ) (is : demands_of count held ≡ row)
    (zeros : cells ≡ replicate count 0) where
  width : length cells ≡ length row
  width = omega (
    arith,
    ap (λ (list : List ℕ). length list) zeros,
    length-replicate {A = ℕ} count 0,
    ap (λ (list : List ℕ). length list) is,
    length-demands count held,
  )

  none : (product : ℕ) → product < length row → get_or cells product 0 ≡ 0
  none product within = ap (λ (list : List ℕ). get_or list product 0) zeros
      ∙ get_or-replicate {A = ℕ} count product 0 0
      (omega (arith, within, ap (λ (list : List ℕ). length list) is, length-demands count held))

pub set-requires : goal.set-requires
set-requires c =
    let row = c.self.inside in
    let zeros : c.in_ok-vec.field-0.items ≡ replicate row.count 0 = search rules in
    omega (
      arith,
      c.in-Some.ensures.within,
      ap (λ (list : List ℕ). length list) c.held.invariant.row,
      c.held.invariant.each,
      width row.count row.held.items c.args.self.now c.from_vec-cells.result c.self.view_is
          (c.from_vec-cells.ensures ∙ zeros),
    )

pub held-preserved : goal.held-preserved
held-preserved c =
    let found = c.in-Some.ensures in
    let so_far = c.held.invariant in
    let initial = c.from_vec-cells.result in
    let cells = c.held.cells in
    let after = c.set.new.self in
    let row = c.args.self.now in
    let one = c.in-Some.one in
    let inside = c.self.inside in
    let zeros : c.in_ok-vec.field-0.items ≡ replicate inside.count 0 = search rules in
    let read = found.demand ∙ ap (λ (demands : List ℕ). get_or demands one.product 0) so_far.row in
    let passed = subst (λ (demands : List ℕ). AllWithin (λ demand. demand ≡ 0) demands c.held.held.from one.product)
    so_far.row found.passed in
    let next = subst (λ (demands : List ℕ). AllWithin (λ demand. demand ≡ 0) demands
    (one.product + 1) c.next.new.self.from) so_far.row found.ahead in
    let within : one.product < length row =
    omega (arith, found.within, ap (λ (list : List ℕ). length list) so_far.row) in
    let sum : one.demand ≡ get_or cells one.product 0 + one.demand = omega (
      arith,
      so_far.ahead one.product found.least,
      none inside.count inside.held.items row initial c.self.view_is (c.from_vec-cells.ensures ∙ zeros) one.product
          within,
    ) in
    record {
      row = found.row ∙ so_far.row;
      each = ap (λ (list : List ℕ). length list) c.set.ensures
          ∙ length-set cells one.product one.demand ∙ so_far.each;
      added = added_more initial cells after row c.held.held.from one.product c.next.new.self.from one.demand _
          found.least found.given so_far.each read passed so_far.ahead c.set.ensures sum so_far.added next;
      ahead = ahead_more initial cells after row c.held.held.from one.product c.next.new.self.from one.demand _
          found.least found.given so_far.each read passed so_far.ahead c.set.ensures sum;
    }

pub returns : goal.returns
returns c =
    let so_far = c.held.invariant in
    let row = c.args.self.now in
    let inside = c.self.inside in
    let initial = c.from_vec-cells.result in
    let zeros : c.in_ok-vec.field-0.items ≡ replicate inside.count 0 = search rules in
    let wide = width inside.count inside.held.items row initial c.self.view_is (c.from_vec-cells.ensures ∙ zeros) in
    let passed = subst (λ (demands : List ℕ). AllWithin (λ demand. demand ≡ 0) demands c.held.held.from
    (length demands)) so_far.row c.in_default.ensures.passed in
    ext_get_or 0 c.held.cells row (so_far.each ∙ wide) (λ k below.
    let within : k < length row = omega (arith, below, so_far.each, wide) in
    let zero =
    none inside.count inside.held.items row initial c.self.view_is (c.from_vec-cells.ensures ∙ zeros) k within in
    ⊎_elim (λ (early : k < c.held.held.from). omega (arith, so_far.added k early (omega (arith, within, wide)), zero))
    (λ (late : c.held.held.from ≤ k). omega (arith, so_far.ahead k late, zero, passed k 0 late within))
    (cases_lt k c.held.held.from))
