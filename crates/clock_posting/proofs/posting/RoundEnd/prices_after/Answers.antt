-- Proves that the loop builds the next prices, or stops at the first product whose next clock price would be too high.
use Rattle.std.proofs.Common.{◌≡◌, ℕ, ◌+◌, ◌-◌, ◌<◌, Bool, false, Some, None, List, [], ◌∷◌, ◌++◌, length, get_or, map}
use Rattle.std.proofs.Common.{ap, sym, subst, ◌∙◌, arith, length-append}
use Rattle.std.specs.Prelude.{is_none, unwrap_or, All, if◌then◌else◌}
use Rattle.std.specs.List.{position_from, range_with_len}
use Rattle.std.proofs.lemmas.List.Elements.{All-push}
use Rattle.std.proofs.lemmas.List.{get_or_default, map-append}
use Rattle.std.proofs.lemmas.List.FromFn.{map-range_with_len_more}
use Rattle.clock_money.specs.Price.{raise}
use Rattle.clock_terms.specs.declared.prices.PricePair.{PricePair}
use Rattle.clock_terms.specs.declared.setup.Product.{Product}
use Rattle.clock_terms.specs.Limits.{no_product}
use Rattle.clock_terms.specs.Increments.{increment_at}
use Rattle.clock_posting.specs.declared.posting.RoundEnd.{RoundEnd}
use Rattle.clock_posting.specs.inside.Parts.{first_at_limit}
use Rattle.clock_posting.specs.inside.RoundEnd.{limit_of, next_of}
use Rattle.clock_posting.specs.Posting.{has_ended, next_clock, next_price, next_prices, post_fault, IsRising}
use Rattle.clock_posting.proofs.Ranges.{first_is, first_is_later}
use Rattle.clock_posting.proofs.posting.RoundEnd.prices_after.Goals as goal

-- The price limit and the next prices, if the auction continues.
limit_going : (end : RoundEnd) → has_ended end.products.now end.grid.now ≡ false →
    limit_of end ≡ first_at_limit end.products.now end.increments.now end.posted.now
limit_going end going = ap (λ (ended : Bool). if ended then None
    else first_at_limit end.products.now end.increments.now end.posted.now) going

next_going : (end : RoundEnd) → has_ended end.products.now end.grid.now ≡ false →
    next_of end ≡ Some (next_prices end.products.now end.increments.now end.posted.now)
next_going end going = ap (λ (ended : Bool). if ended then None
    else Some (next_prices end.products.now end.increments.now end.posted.now)) going

-- The next clock price of a product, from what was read of it.
priced : (end : RoundEnd) (product price percent : ℕ) (here : Product) → product < length end.products.now →
    length end.posted.now ≡ length end.products.now → percent ≡ increment_at end.increments.now product →
    raise (get_or end.posted.now product price) percent (get_or end.products.now product here).granule
    ≡ next_clock end.products.now end.increments.now end.posted.now product
priced end product price percent here below each is = ap (λ (n : ℕ). raise n percent (get_or end.products.now product
    here).granule) (get_or_default end.posted.now product price 0 (omega (arith, below, each)))
    ∙ ap (λ (n : ℕ). raise (get_or end.posted.now product 0) n (get_or end.products.now product here).granule) is
    ∙ ap (λ (one : Product). raise (get_or end.posted.now product 0) (increment_at end.increments.now product)
    one.granule) (get_or_default end.products.now product here no_product below)

pub returns-in_default-clause-err : goal.returns-in_default-clause-err
returns-in_default-clause-err c = λ _.
    let end = c.args.self.now in
    let test = λ (product : ℕ). is_none (next_clock end.products.now end.increments.now end.posted.now product) in
    ap post_fault (limit_going end (sym c.has_ended.ensures ∙ c.if-has_ended.false) ∙ sym c.loop-product.invariant.rest
    ∙ first_is test c.loop-product.product (length end.products.now) c.loop-product-test.true (ap is_none
    (sym (c.in_default.ensures.exact ∙ priced end c.loop-product.product c.index-self-product.result c.at-percent.result
    c.index-self-product-in-loop-product.result c.loop-product-test.true c.requires.posted_each c.at-percent.ensures))))

pub loop-product-preserved : goal.loop-product-preserved
loop-product-preserved c =
    let end = c.args.self.now in
    let product = c.loop-product.product in
    let posted = end.posted.now in
    let clock = next_clock end.products.now end.increments.now posted in
    let f = next_price end.products.now end.increments.now posted in
    let g = λ (pair : PricePair). Some pair.clock in
    let below : product < length end.products.now = c.loop-product-test.true in
    let read = get_or posted product c.index-self-product.result in
    let exact : Some c.in-Some.clock ≡ clock product =
    c.in-Some.ensures.exact ∙ priced end product c.index-self-product.result c.at-percent.result
    c.index-self-product-in-loop-product.result below c.requires.posted_each c.at-percent.ensures in
    let start : read ≡ get_or posted product 0 =
    get_or_default posted product c.index-self-product.result 0 (omega (arith, below, c.requires.posted_each)) in
    let item : PricePair = record { start = read; clock = c.in-Some.clock } in
    let pair : item ≡ f product = λ k. record { start = start k; clock = unwrap_or (exact k) 0 } in
    let rises : IsRising item = omega (arith, start, c.in-Some.ensures.above) in
    record {
      lengths = ap length c.push.ensures.items ∙ length-append c.loop-product.next.items (item ∷ [])
          ∙ ap (λ n. n + 1) c.loop-product.invariant.lengths;
      room = omega (arith, c.loop-product.invariant.room, c.push.ensures.room);
      so_far = c.push.ensures.items
          ∙ ap (λ (xs : List PricePair). xs ++ item ∷ []) c.loop-product.invariant.so_far
          ∙ ap (λ (one : PricePair). map f (range_with_len 0 product) ++ one ∷ []) pair
          ∙ sym (map-range_with_len_more f 0 product product (omega arith));
      clocks = map-range_with_len_more clock 0 product product (omega arith)
          ∙ ap (λ xs. xs ++ clock product ∷ []) c.loop-product.invariant.clocks
          ∙ ap (λ one. map g c.loop-product.next.items ++ one ∷ []) (sym exact)
          ∙ sym (map-append g c.loop-product.next.items (item ∷ []))
          ∙ ap (map g) (sym c.push.ensures.items);
      rising = rw c.push.ensures.items
          (All-push IsRising c.loop-product.next.items item c.loop-product.invariant.rising rises);
      rest = sym (first_is_later (λ (k : ℕ). is_none (clock k)) product (length end.products.now) below
          (ap is_none (sym exact))) ∙ c.loop-product.invariant.rest;
    }

pub returns : goal.returns
returns c =
    let end = c.args.self.now in
    let product = c.loop-product.product in
    let clock = next_clock end.products.now end.increments.now end.posted.now in
    let going : has_ended end.products.now end.grid.now ≡ false = sym c.has_ended.ensures ∙ c.if-has_ended.false in
    let whole : product ≡ length end.products.now =
    omega (arith, c.loop-product-test.false, c.loop-product.auto.product-end) in
    let none : length end.products.now - product ≡ 0 = omega (arith, whole) in
    record {
      ok = ap Some (c.into_items.ensures ∙ c.loop-product.invariant.so_far ∙ ap (λ n. map (next_price end.products.now
          end.increments.now end.posted.now) (range_with_len 0 n)) whole) ∙ sym (next_going end going);
      clocks = ap (λ n. map clock (range_with_len 0 n)) (sym whole) ∙ c.loop-product.invariant.clocks
          ∙ ap (map (λ (pair : PricePair). Some pair.clock)) (sym c.into_items.ensures);
      rising = subst (λ (list : List PricePair). All IsRising list)
          (sym c.into_items.ensures) c.loop-product.invariant.rising;
      possible = limit_going end going ∙ sym c.loop-product.invariant.rest
          ∙ ap (λ n. position_from (λ k. is_none (clock k)) product (range_with_len product n)) none;
      err = tt;
    }
