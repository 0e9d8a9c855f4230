-- Proves each part of a line from what was read of the product.
use Rattle.std.proofs.Common.{◌≡◌, ℕ, Bool, true, false, Some, None, ap, ap₂, refl, ◌∙◌, arith}
use Rattle.std.specs.Prelude.{nat_lt, if◌then◌else◌}
use Rattle.std.specs.Bool.{then_some}
use Rattle.std.proofs.lemmas.List.{get_or_default}
use Rattle.clock_terms.specs.declared.setup.Product.{Product}
use Rattle.clock_terms.specs.Limits.{no_product, supply_of}
use Rattle.clock_posting.proofs.posting.RoundEnd.line.Goals as goal

shown : (test : Bool) (total : ℕ) → then_some test total ≡ (if test then Some total else None)
shown true total = refl
shown false total = refl

pub returns : goal.returns
returns c =
    let end = c.args.self.now in
    let product = c.args.product in
    let pair = get_or_default end.prices.now product c.index-self-product.result (record { start = 0; clock = 0 })
    (omega (arith, c.requires.product, c.requires.end.prices_each)) in
    let posted = get_or_default end.posted.now product c.index-self-product-3.result 0
    (omega (arith, c.requires.product, c.requires.end.posted_each)) in
    let supply = ap (λ (one : Product). one.supply)
    (get_or_default end.products.now product c.index-self-product-2.result no_product c.requires.product) in
    let demand = c.then_some.ensures
    ∙ ap₂ (λ (supply total : ℕ). then_some (nat_lt supply total) total) supply c.total-total.ensures
    ∙ shown (nat_lt (supply_of end.products.now product) _) _ in
    λ k. record {
      start = (pair k).start;
      clock = (pair k).clock;
      posted = posted k;
      demand = demand k;
      next = c.next_at.ensures k;
    }
