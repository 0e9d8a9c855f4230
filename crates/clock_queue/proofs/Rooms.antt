-- How an application changes the room of requests.
use Rattle.std.proofs.Common.{◌≡◌, ℕ, ◌+◌, ◌-◌, ◌*◌, ◌/◌, ◌<◌, ◌≤◌, List, [], refl, ap, ◌∙◌, inl, inr, arith, get_or}
use Rattle.std.proofs.Common.{set, length}
use Rattle.std.proofs.Math.Nat.{div-eq_of_lt-le}
use Rattle.std.proofs.lemmas.Nat.{le-div}
use Rattle.std.proofs.lemmas.Bool.{cases_lt}
use Rattle.std.proofs.lemmas.List.{get_or-set_same, get_or-set_other}
use Rattle.clock_terms.specs.declared.setup.Product.{Product}
use Rattle.clock_terms.specs.Limits.{units_of}
use Rattle.clock_terms.specs.Demands.{row_of, demand_at, with_demand}
use Rattle.clock_terms.specs.Eligibility.{activity}
use Rattle.clock_terms.proofs.DemandLaws.{total-with_demand_same, total-with_demand_other}
use Rattle.clock_terms.specs.declared.change.Kind.{Kind}
use Rattle.clock_terms.specs.declared.change.Kind.TheVariants.{Increase, Reduction}
use Rattle.clock_processor.specs.Room.{room_of, excess_of, unused_units, changed_demand}
use Rattle.clock_processor.proofs.BoardKept.{activity-set}
use Rattle.clock_queue.specs.inside.Lines.{line_by, cost_by, product_line, bidder_line}

-- what is left after paying for all affordable blocks pays for no block
div_rest : (a units : ℕ) → 0 < units → (a - units * (a / units)) / units ≡ 0
div_rest a units some = div-eq_of_lt-le {k = 0} units (omega arith) (omega (arith, some))

-- an amount pays for a block exactly if it is at least the block's cost
paid_for : (a units : ℕ) → 0 < a / units → units ≤ a
paid_for a units some = elim (cases_lt a units) as (λ _. units ≤ a) [
  | inl less ↦ (let none : a / units ≡ 0 = div-eq_of_lt-le {k = 0} units (omega arith) (omega (arith, less)) in
      absurd (omega (arith, some, none)))
  | inr enough ↦ enough
]

pays_for : (a units : ℕ) → 0 < units → units ≤ a → 0 < a / units
pays_for a units some enough = le-div 1 a units some (omega (arith, enough))

module _ (products : List Product) (eligibilities : List ℕ) (grid : List (List ℕ)) (b p : ℕ) (b_in : b < length grid)
    (p_in : p < length (row_of grid b)) (p_known : p < length products) where
  -- the new activity of the bidder whose demand changed
  activity_now : (v : ℕ) → activity products (row_of (with_demand grid b p v) b) + units_of products p
      * demand_at grid b p ≡ activity products (row_of grid b) + units_of products p * v
  activity_now v = ap (λ row. activity products row + units_of products p * demand_at grid b p) (get_or-set_same grid b
      (set (row_of grid b) p v) [] b_in) ∙ activity-set products (row_of grid b) p v p_known p_in

  -- the room of a request that waits neither for the product nor for the bidder is unchanged
  pub room_same : (waits : Kind) (v c q : ℕ) → (line_by waits c q ≡ product_line p → ⊥)
      → (line_by waits c q ≡ bidder_line b → ⊥) → room_of waits products eligibilities (with_demand grid b p v) c q
      ≡ room_of waits products eligibilities grid c q
  room_same Reduction v c q not_product not_bidder =
      omega (arith, total-with_demand_other grid b p v q b_in (λ e. not_product (ap product_line e)))
  room_same Increase v c q not_product not_bidder =
      ap (λ row. (get_or eligibilities c 0 - activity products row) / units_of products q)
      (get_or-set_other grid b c (set (row_of grid b) p v) [] (λ e. not_bidder (ap bidder_line e)))

  -- a request that is applied by its whole room has no room afterward
  pub room_used : (applied : Kind) → 0 < units_of products p → (applied ≡ Reduction → room_of applied products
      eligibilities grid b p ≤ demand_at grid b p) → room_of applied products eligibilities (with_demand grid b p
      (changed_demand applied (demand_at grid b p) (room_of applied products eligibilities grid b p))) b p ≡ 0
  room_used Reduction some held =
      omega (
        arith,
        held refl,
        total-with_demand_same grid b p (demand_at grid b p - excess_of products grid p) b_in p_in,
      )
  room_used Increase some held =
      let unused : ℕ = get_or eligibilities b 0 - activity products (row_of grid b) in
      let amount : ℕ = unused / units_of products p in
      let taken : get_or eligibilities b 0 - activity products
      (row_of (with_demand grid b p (demand_at grid b p + amount)) b) ≡ unused - units_of products p * amount =
      omega (arith, activity_now (demand_at grid b p + amount)) in
      ap (λ n. n / units_of products p) taken ∙ div_rest unused (units_of products p) some

module _ (products : List Product) (eligibilities : List ℕ) (grid : List (List ℕ)) where
  -- requests in a product's line cost nothing, and either all have room or none has
  pub free : (kind : Kind) (c q p units : ℕ) → line_by kind c q ≡ product_line p → cost_by kind units ≡ 0
  free Reduction c q p units own = refl
  free Increase c q p units own = absurd (omega (arith, own))

  pub room_together : (one other : Kind) (c q d r p : ℕ) → line_by one c q ≡ product_line p → line_by other d r
      ≡ product_line p → room_of one products eligibilities grid c q ≡ room_of other products eligibilities grid d r
  room_together Reduction Reduction c q d r p own own' = ap (excess_of products grid) (omega (arith, own, own'))
  room_together Reduction Increase c q d r p own own' = absurd (omega (arith, own'))
  room_together Increase other c q d r p own own' = absurd (omega (arith, own))

  -- a request in a bidder's line has room exactly if it costs at most the unused eligibility
  pub within_unused : (kind : Kind) (c q b : ℕ) → line_by kind c q ≡ bidder_line b → 0 < room_of kind products
      eligibilities grid c q → cost_by kind (units_of products q) ≤ unused_units products eligibilities grid b
  within_unused Reduction c q b own some = absurd (omega (arith, own))
  within_unused Increase c q b own some =
      let same : c ≡ b = omega (arith, own) in
      omega (
        arith,
        paid_for (unused_units products eligibilities grid c) (units_of products q) some,
        ap (unused_units products eligibilities grid) same,
      )

  pub room_within : (kind : Kind) (c q b : ℕ) → line_by kind c q ≡ bidder_line b → 0 < units_of products q
      → cost_by kind (units_of products q) ≤ unused_units products eligibilities grid b
      → 0 < room_of kind products eligibilities grid c q
  room_within Reduction c q b own some enough = absurd (omega (arith, own))
  room_within Increase c q b own some enough =
      let same : c ≡ b = omega (arith, own) in
      pays_for (unused_units products eligibilities grid c) (units_of products q) some
      (omega (arith, enough, ap (unused_units products eligibilities grid) same))
