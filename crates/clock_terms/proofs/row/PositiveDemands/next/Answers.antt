-- The next entry has the demand for its product. Since products rise, all demands between two entries are 0.
use Rattle.std.proofs.Common.{◌≡◌, ◌<◌, ◌≤◌, ◌+◌, ℕ, List, length, drop, get_or, refl, ap, subst, sym, ◌∙◌, ⊎_elim}
use Rattle.std.proofs.Common.{arith}
use Rattle.std.specs.Option.{option_map, unwrap_or}
use Rattle.std.proofs.lemmas.Bool.{cases_lt}
use Rattle.std.proofs.lemmas.List.{get_or_default}
use Rattle.std.specs.List.{AllWithin}
use Rattle.clock_terms.specs.declared.held_list.PositiveDemand.{PositiveDemand}
use Rattle.clock_terms.specs.declared.row.ProductDemand.{ProductDemand}
use Rattle.clock_terms.specs.Limits.{most_supply}
use Rattle.clock_terms.specs.HeldDemands.{demand_for, demands_of, next_of}
use Rattle.clock_terms.specs.inside.Rows.{IsPackedWalk}
use Rattle.clock_terms.proofs.HeldLaws.{shown, length-demands, found, rising, held_at, small_at, next_at, next_none}
use Rattle.clock_terms.proofs.HeldLaws.{gap}
use Rattle.clock_terms.proofs.row.PositiveDemands.next.Goals as goal

-- the next entry has the demand for its product
is_demand : (count : ℕ) (held : List PositiveDemand) (given : ℕ) (d : PositiveDemand) → IsPackedWalk count held given
    → given < length held → (get_or held given d).demand ≡ demand_for held (get_or held given d).product
is_demand count held given d kept more = sym (found held (get_or held given d).product given d
    (λ k e low high. rising 0 held count k given e d kept.0 high more) more refl)

-- the entry after it is for a higher product
above : (count : ℕ) (held : List PositiveDemand) (given : ℕ) (d : PositiveDemand) → IsPackedWalk count held given
    → given < length held → (get_or held given d).product < next_of count (drop (given + 1) held)
above count held given d kept more =
    ⊎_elim
    (λ (goes_on : given + 1 < length held).
    omega (
      arith,
      next_at count held (given + 1) d goes_on,
      rising 0 held count given (given + 1) d d kept.0 (omega arith) goes_on,
    ))
    (λ (ends : length held ≤ given + 1).
    omega (arith, next_none count held (given + 1) ends, (held_at 0 held count given d kept.0 more).1))
    (cases_lt (given + 1) (length held))

-- the next product is at most the number of products
most : (count : ℕ) (held : List PositiveDemand) (given : ℕ) → IsPackedWalk count held given
    → next_of count (drop given held) ≤ count
most count held given kept =
    let no_one : PositiveDemand = record { product = 0; demand = 0 } in
    ⊎_elim
    (λ (goes_on : given < length held).
    omega (arith, next_at count held given no_one goes_on, (held_at 0 held count given no_one kept.0 goes_on).1))
    (λ (ends : length held ≤ given). omega (arith, next_none count held given ends))
    (cases_lt given (length held))

-- the demands between two entries are 0
between : (count : ℕ) (held : List PositiveDemand) (given : ℕ) (d : PositiveDemand) (product e : ℕ)
    → IsPackedWalk count held given → given < length held → (get_or held given d).product < product
    → product < next_of count (drop (given + 1) held) → get_or (demands_of count held) product e ≡ 0
between count held given d product e kept more low high =
    let smaller : AllWithin (λ one. one.product < product) held 0 (given + 1) =
    λ k f from to.
    ⊎_elim
    (λ (before : k < given). omega (arith, low, rising 0 held count k given f d kept.0 before more))
    (λ (last : given ≤ k).
    let same : k ≡ given = omega (arith, last, to) in
    omega (
      arith,
      low,
      ap (λ (n : ℕ). (get_or held n f).product) same,
      ap (λ (one : PositiveDemand). one.product) (get_or_default held given f d more),
    ))
    (cases_lt k given) in
    shown count held product e (omega (arith, high, most count held (given + 1) (kept.0, omega (arith, more))))
    ∙ gap count held (given + 1) product kept.0 smaller high

pub returns-in_err-one-clause-passed : goal.returns-in_err-one-clause-passed
returns-in_err-one-clause-passed c =
    let walk = c.self.inside in
    let ended = next_none walk.count walk.held.now walk.given c.in_err-one.ensures.lookup.3 in
    let long = length-demands walk.count walk.held.now in
    λ k d low high.
    let below : k < length c.args.self.now.demands = subst (λ given. k < unwrap_or (option_map
    (λ (held : ProductDemand). held.product) given) (length c.args.self.now.demands)) c.from_residual.ensures high in
    absurd (omega (
      arith,
      low,
      below,
      ended,
      long,
      ap (λ w. w.from) c.self.view_is,
      ap (λ w. length w.demands) c.self.view_is,
    ))

pub returns-clause-within : goal.returns-clause-within
returns-clause-within c =
    let walk = c.self.inside in
    omega (
      arith,
      (held_at 0 walk.held.now walk.count walk.given c.in_ok-one.one.now c.self.invariant.0
          c.in_ok-one.ensures.lookup.3.0).1,
      ap (λ (one : PositiveDemand). one.product) c.in_ok-one.ensures.lookup.1,
      length-demands walk.count walk.held.now,
      ap (λ w. length w.demands) c.self.view_is,
    )

pub returns-clause-demand : goal.returns-clause-demand
returns-clause-demand c =
    let walk = c.self.inside in
    let more : walk.given < length walk.held.now = c.in_ok-one.ensures.lookup.3.0 in
    let product = c.in_ok-one.one.now.product in
    let is = ap (λ (one : PositiveDemand). one.product) c.in_ok-one.ensures.lookup.1 in
    ap (λ (one : PositiveDemand). one.demand) c.in_ok-one.ensures.lookup.1
    ∙ is_demand walk.count walk.held.now walk.given c.in_ok-one.one.now c.self.invariant more
    ∙ ap (λ wanted. demand_for walk.held.now wanted) (sym is)
    ∙ sym (shown walk.count walk.held.now product 0 (omega (
      arith,
      is,
      (held_at 0 walk.held.now walk.count walk.given c.in_ok-one.one.now c.self.invariant.0 more).1,
    )))
    ∙ ap (λ w. get_or w.demands product 0) c.self.view_is

pub returns-clause-held : goal.returns-clause-held
returns-clause-held c =
    let walk = c.self.inside in
    subst (λ (one : PositiveDemand). 0 < one.demand) (sym c.in_ok-one.ensures.lookup.1) (held_at 0 walk.held.now
    walk.count walk.given c.in_ok-one.one.now c.self.invariant.0 c.in_ok-one.ensures.lookup.3.0).0

pub returns-clause-small : goal.returns-clause-small
returns-clause-small c =
    let walk = c.self.inside in
    subst (λ (one : PositiveDemand). one.demand ≤ most_supply) (sym c.in_ok-one.ensures.lookup.1) (small_at 0
    walk.held.now walk.count walk.given c.in_ok-one.one.now c.self.invariant.0 c.in_ok-one.ensures.lookup.3.0)

pub returns-clause-given : goal.returns-clause-given
returns-clause-given c =
    let walk = c.self.inside in
    subst (λ (one : PositiveDemand). one.product < next_of walk.count (drop (walk.given + 1) walk.held.now))
    (sym c.in_ok-one.ensures.lookup.1)
    (above walk.count walk.held.now walk.given c.in_ok-one.one.now c.self.invariant c.in_ok-one.ensures.lookup.3.0)

pub returns-clause-ahead : goal.returns-clause-ahead
returns-clause-ahead c =
    let walk = c.self.inside in
    λ k d low high. ap (λ w. get_or w.demands k d) (sym c.self.view_is) ∙ between walk.count walk.held.now walk.given
    c.in_ok-one.one.now k d c.self.invariant c.in_ok-one.ensures.lookup.3.0
    (omega (arith, low, ap (λ (one : PositiveDemand). one.product) c.in_ok-one.ensures.lookup.1)) high
