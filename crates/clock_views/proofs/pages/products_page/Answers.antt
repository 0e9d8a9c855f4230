use Rattle.std.proofs.Common.{◌≡◌, ◌<◌, ◌≤◌, ◌+◌, ◌++◌, ◌∙◌, ap, drop, get_or, length, nat_lt, refl, sym, subst, arith}
use Rattle.std.specs.Prelude.{codes, false}
use Rattle.clock_terms.specs.Limits.{SetupFields}
use Rattle.clock_views.specs.PublicPages.{product_value}
use Rattle.clock_views.specs.inside.Values.{rest_text}
use Rattle.clock_views.proofs.Lists.{array_between, item_more, items_end}
use Rattle.clock_views.proofs.Pushes.{added, before, headed, together}
use Rattle.clock_views.proofs.Texts.{products_in_pieces}
use Rattle.clock_views.proofs.pages.products_page.Goals as goal

pub loop-i-preserved : goal.loop-i-preserved
loop-i-preserved c =
    let inside = c.setup.inside in
    let value = product_value inside.version in
    let product = c.index-products-i.result in
    let i = c.loop-i.i in
    let text = c.loop-i.text.items in
    let next = c.push_product.new.text.items in
    let opened = c.extend_from_slice-2.new.self.items in
    let items : text ++ rest_text value (nat_lt 0 i) (drop i inside.products)
    ≡ opened ++ rest_text value false inside.products = subst (λ (setup : SetupFields). text
    ++ rest_text (product_value setup.version) (nat_lt 0 i) (drop i setup.products) ≡ opened
    ++ rest_text (product_value setup.version) false setup.products) (sym c.setup.view_is) c.loop-i.invariant.adds in
    let within : i < length inside.products =
    omega (arith, c.loop-i-test.true, ap length c.as_slice-products.ensures) in
    record {
      adds = subst (λ (setup : SetupFields). next ++ rest_text (product_value setup.version) (nat_lt 0 (i + 1))
          (drop (i + 1) setup.products) ≡ opened ++ rest_text (product_value setup.version) false setup.products)
          c.setup.view_is (item_more value _ _ inside.products i product product within (c.index-products-i.is
          ∙ ap (λ list. get_or list i product) c.as_slice-products.ensures) c.push_product.ensures.adds ∙ items);
      room = omega (arith, c.loop-i.invariant.room, c.push_product.ensures.room);
    }

pub returns : goal.returns
returns c =
    let inside = c.setup.inside in
    let value = product_value inside.version in
    let text = c.loop-i.text.items in
    let opened = c.extend_from_slice-2.new.self.items in
    let items : text ++ rest_text value (nat_lt 0 c.loop-i.i) (drop c.loop-i.i inside.products)
    ≡ opened ++ rest_text value false inside.products = subst (λ (setup : SetupFields). text
    ++ rest_text (product_value setup.version) (nat_lt 0 c.loop-i.i) (drop c.loop-i.i setup.products) ≡ opened
    ++ rest_text (product_value setup.version) false setup.products) (sym c.setup.view_is) c.loop-i.invariant.adds in
    let done : length inside.products ≤ c.loop-i.i =
    omega (arith, c.loop-i-test.false, ap length c.as_slice-products.ensures) in
    rw (← c.setup.view_is)
    (headed c.into_items.ensures c.in_ok-text.ensures.head
    (together (products_in_pieces _)
    (before (added c.extend_from_slice.ensures.items)
    (before (rw c.from_version_2-limit.ensures at c.push_number_if.ensures.adds)
    (before (rw (c.is_some.ensures, c.from_version_2-limit.ensures) at c.push_comma_if.ensures.adds)
    (array_between value inside.products (codes "\"products\":") refl refl (added c.extend_from_slice-2.ensures.items)
    (items_end value text _ (nat_lt 0 c.loop-i.i) inside.products c.loop-i.i done items)
    (before c.push_number.ensures.adds
    (before c.push_number-2.ensures.adds (added c.extend_from_slice-3.ensures.items)))))))))
