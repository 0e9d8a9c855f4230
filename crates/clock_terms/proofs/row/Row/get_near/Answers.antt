-- An entry for the product, at whatever index, has its demand, since no two entries are for one product.
use Rattle.std.proofs.Common.{◌≡◌, ◌+◌, ◌<◌, ◌%◌, ℕ, List, length, get_or, ap, sym, subst, ◌∙◌, arith}
use Rattle.clock_terms.specs.declared.held_list.PositiveDemand.{PositiveDemand}
use Rattle.clock_terms.specs.HeldDemands.{demands_of}
use Rattle.clock_terms.specs.inside.Rows.{ArePositiveDemands}
use Rattle.clock_terms.proofs.HeldLaws.{found, kept_demand, rising, small_at}
use Rattle.clock_terms.proofs.row.Row.get_near.Goals as goal

-- the default entry, in the form of the goals
abbrev none : PositiveDemand
none = record { product = 0; demand = 0 }

-- an entry for a product has the row's demand for it
at_place : (count : ℕ) (held : List PositiveDemand) (row : List ℕ) (product place : ℕ) → ArePositiveDemands 0 held count
    → demands_of count held ≡ row → product < length row → place < length held
    → (get_or held place none).product ≡ product → (get_or held place none).demand ≡ get_or row product 0
at_place count held row product place are is within inside here =
    sym (found held product place none
    (λ k d low high. omega (arith, here, rising 0 held count k place d none are high inside)) inside here)
    ∙ kept_demand count held row product is within

pub returns-then-is_at-clause-is : goal.returns-then-is_at-clause-is
returns-then-is_at-clause-is c =
    let row = c.self.inside in
    let near = c.args.near.now in
    let is = subst (λ (held : List PositiveDemand). (near < length held) × ((d : PositiveDemand)
    → (get_or held near d).product ≡ c.args.product)) c.as_slice-held.ensures.value (c.is_at.ensures c.if-is_at.true) in
    ap (λ (held : List PositiveDemand). (get_or held near none).demand) c.as_slice-held.ensures.value
    ∙ at_place row.count row.held.items c.args.self.now c.args.product near c.self.invariant.order c.self.view_is
    c.requires is.0 (is.1 none)

pub returns-then-is_at-clause-small : goal.returns-then-is_at-clause-small
returns-then-is_at-clause-small c =
    let row = c.self.inside in
    let near = c.args.near.now in
    let is = subst (λ (held : List PositiveDemand). near < length held) c.as_slice-held.ensures.value
    (c.is_at.ensures c.if-is_at.true).0 in
    omega (
      arith,
      ap (λ (held : List PositiveDemand). (get_or held near none).demand) c.as_slice-held.ensures.value,
      small_at 0 row.held.items row.count near none c.self.invariant.order is,
    )

pub returns-then-is_at-2-clause-is : goal.returns-then-is_at-2-clause-is
returns-then-is_at-2-clause-is c =
    let row = c.self.inside in
    let next = (c.args.near.now + 1) % 18446744073709551616 in
    let is = subst (λ (held : List PositiveDemand). (next < length held) × ((d : PositiveDemand) → (get_or held next
    d).product ≡ c.args.product)) c.as_slice-held.ensures.value (c.is_at-2.ensures c.if-is_at-2.true) in
    ap (λ (held : List PositiveDemand). (get_or held next none).demand) c.as_slice-held.ensures.value
    ∙ at_place row.count row.held.items c.args.self.now c.args.product next c.self.invariant.order c.self.view_is
    c.requires is.0 (is.1 none)

pub returns-then-is_at-2-clause-small : goal.returns-then-is_at-2-clause-small
returns-then-is_at-2-clause-small c =
    let row = c.self.inside in
    let next = (c.args.near.now + 1) % 18446744073709551616 in
    let is = subst (λ (held : List PositiveDemand). next < length held) c.as_slice-held.ensures.value
    (c.is_at-2.ensures c.if-is_at-2.true).0 in
    omega (
      arith,
      ap (λ (held : List PositiveDemand). (get_or held next none).demand) c.as_slice-held.ensures.value,
      small_at 0 row.held.items row.count next none c.self.invariant.order is,
    )
