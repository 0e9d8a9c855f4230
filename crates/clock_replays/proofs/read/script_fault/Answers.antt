-- Each turn of the loop checks the limits for one product, and skips those without limits.
use Rattle.std.proofs.Common.{◌≡◌, ◌<◌, ◌≤◌, ◌+◌, true, false, length, ap, sym, ◌∙◌, arith, rules}
use Rattle.clock_terms.specs.Faults.{first_fault}
use Rattle.clock_replays.specs.declared.replay.Script.{Script}
use Rattle.clock_replays.specs.ReplayChecks.{script_checks}
use Rattle.clock_replays.proofs.CheckLaws.{all_passed, are_limits, limits_failed, limits_passed, limits_end}
use Rattle.clock_replays.proofs.read.script_fault.Goals as goal

pub limited-init : goal.limited-init
unfolding script_checks
limited-init c =
    let limits = c.in-Sincere.limits in
    let next = c.next_limited-product in
    let each : length limits ≡ length c.args.products.now = search rules in
    record {
      within = next.ensures.within;
      rest = sym (all_passed c.args.bidder c.args.products.now limits 0 next.result each (omega arith)
          next.ensures.within next.ensures.passed)
          ∙ sym (ap (λ (script : Script). first_fault (script_checks c.args.products.now c.args.bidder script))
          c.in-Sincere.is);
    }

pub returns-then-not-are_limits-clause-fault : goal.returns-then-not-are_limits-clause-fault
returns-then-not-are_limits-clause-fault c =
    let l = c.limited in
    let product = c.index-products-product in
    let limits = c.in-Sincere.limits in
    let each : length limits ≡ length c.args.products.now = search rules in
    let below : l.product < length limits = omega (arith, c.limited-test.true, c.count.ensures) in
    let is : are_limits product.result c.list.result.now ≡ false = search rules in
    sym (limits_failed c.args.bidder c.args.products.now limits l.product product.result c.list.result.now each below
    product.is c.list.ensures is) ∙ l.invariant.rest

pub limited-preserved : goal.limited-preserved
limited-preserved c =
    let l = c.limited in
    let product = c.index-products-product in
    let limits = c.in-Sincere.limits in
    let next = c.next_limited-product-in-limited in
    let each : length limits ≡ length c.args.products.now = search rules in
    let below : l.product < length limits = omega (arith, c.limited-test.true, c.count.ensures) in
    let is : are_limits product.result c.list.result.now ≡ true = search rules in
    record {
      within = next.ensures.within;
      rest = sym (all_passed c.args.bidder c.args.products.now limits (l.product + 1) next.result each
          next.ensures.least next.ensures.within next.ensures.passed)
          ∙ sym (limits_passed c.args.bidder c.args.products.now limits l.product product.result c.list.result.now each
          below product.is c.list.ensures is)
          ∙ l.invariant.rest;
    }

pub returns-clause-fault : goal.returns-clause-fault
returns-clause-fault c =
    let limits = c.in-Sincere.limits in
    let past : length limits ≤ c.limited.product = omega (arith, c.limited-test.false, c.count.ensures) in
    sym (limits_end c.args.bidder c.args.products.now limits c.limited.product past) ∙ c.limited.invariant.rest
