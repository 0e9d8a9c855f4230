use Rattle.std.proofs.Common.{◌≡◌, ◌<◌, ◌≤◌, ◌++◌, ◌+◌, ◌-◌, ℕ, List, length, flat_map, sym, ap, append-nil, ◌∙◌, arith}
use Rattle.std.specs.List.{range_with_len}
use Rattle.clock_scripts.proofs.SheetWalks.{no_limits_for, one_more, opening_for, passed, priced_at, first_text}
use Rattle.clock_scripts.proofs.SheetWalks.{whole_first}
use Rattle.clock_scripts.proofs.sincere.push_first.Goals as goal

pub limited-init : goal.limited-init
limited-init c =
    let prices = c.args.prices.now in
    let lists = c.args.limits.now in
    let n = length prices in
    let f = first_text prices lists in
    let next = c.next_limited-product in
    let within : next.result ≤ n = omega (arith, next.ensures.within, c.requires) in
    let whole : n ≡ n - 0 = omega arith in
    record {
      within = within;
      rest = ap (λ (rest : List ℕ). c.args.text.now.items ++ rest) (sym (ap (λ (k : ℕ). flat_map f (range_with_len 0 k))
          whole ∙ passed f 0 next.result n (omega arith) within
          (no_limits_for prices lists 0 next.result next.ensures.passed)));
    }

pub limited-preserved : goal.limited-preserved
limited-preserved c =
    let prices = c.args.prices.now in
    let lists = c.args.limits.now in
    let n = length prices in
    let f = first_text prices lists in
    let p = c.limited.product in
    let pair = c.index-prices-product.result in
    let list = c.list-list.result.now in
    let old = c.limited.text.items in
    let text = c.push_wanted.new.text.items in
    let next = c.next_limited-product-in-limited in
    let within : next.result ≤ n = omega (arith, next.ensures.within, c.requires) in
    let below : p < n = omega (arith, c.limited-test.true) in
    record {
      within = within;
      rest = ap (λ (rest : List ℕ). text ++ rest) (sym (passed f (p + 1) next.result n next.ensures.least within
          (no_limits_for prices lists (p + 1) next.result next.ensures.passed)))
          ∙ one_more f old text (c.args.text.now.items ++ flat_map f (range_with_len 0 n)) p n below
          (opening_for prices lists p pair list old text (c.index-prices-product.is ∙ priced_at prices p pair below)
          c.list-list.ensures c.in_ok-push_wanted.ensures) c.limited.invariant.rest;
    }

pub returns : goal.returns
returns c =
    let prices = c.args.prices.now in
    let f = first_text prices c.args.limits.now in
    let n = length prices in
    let p = c.limited.product in
    let text = c.limited.text.items in
    let none : n - p ≡ 0 = omega (arith, c.limited-test.false) in
    record {
      is = sym (append-nil text)
          ∙ ap (λ (k : ℕ). text ++ flat_map f (range_with_len p k)) (sym none)
          ∙ c.limited.invariant.rest
          ∙ ap (λ (all : List ℕ). c.args.text.now.items ++ all) (whole_first prices c.args.limits.now);
    }
