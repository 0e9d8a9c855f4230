use Rattle.std.proofs.Common.{◌≡◌, ◌++◌, ◌-◌, List, ℕ, ap, codes, decimal, drop, length-drop, rules, sym, take, ◌∙◌}
use Rattle.std.proofs.lemmas.List.{take_all}
use Rattle.std.proofs.lemmas.Fmt.{length-decimal-le}
use Rattle.clock_scripts.specs.Sincere.{bid_for}
use Rattle.clock_scripts.proofs.TextPieces.{bid_with_comma, together_ok}
use Rattle.clock_scripts.proofs.bodies.push_bid.Goals as goal

pub write_digits-quantity_at-requires : goal.write_digits-quantity_at-requires
write_digits-quantity_at-requires c = search (rules, length-decimal-le 20)

pub put_before-behind_product-requires-clause-room : goal.put_before-behind_product-requires-clause-room
put_before-behind_product-requires-clause-room c = search (rules, length-decimal-le 20)

pub write_digits-product_at-requires : goal.write_digits-product_at-requires
write_digits-product_at-requires c = search (rules, length-decimal-le 20)

pub put_before-behind_price-requires-clause-room : goal.put_before-behind_price-requires-clause-room
put_before-behind_price-requires-clause-room c = search (rules, length-decimal-le 20)

pub write_digits-price_at-requires : goal.write_digits-price_at-requires
write_digits-price_at-requires c = search (rules, length-decimal-le 20)

pub put_before-start-requires-clause-room : goal.put_before-start-requires-clause-room
put_before-start-requires-clause-room c = search (rules, length-decimal-le 20)

pub returns : goal.returns
returns c =
    let line = c.put_before-start.new.bytes in
    let start = c.put_before-start.result in
    let end : drop c.put_before-end.result c.put_before-end.new.bytes ≡ codes "}" = search rules in
    let quantity =
    c.write_digits-quantity_at.ensures.written ∙ ap (λ (rest : List ℕ). decimal c.args.quantity ++ rest) end in
    let behind_product =
    c.put_before-behind_product.ensures.put ∙ ap (λ (rest : List ℕ). codes ",\"quantity\":" ++ rest) quantity in
    let product =
    c.write_digits-product_at.ensures.written ∙ ap (λ (rest : List ℕ). decimal c.args.product ++ rest) behind_product in
    let behind_price =
    c.put_before-behind_price.ensures.put ∙ ap (λ (rest : List ℕ). codes ",\"product\":" ++ rest) product in
    let price =
    c.write_digits-price_at.ensures.written ∙ ap (λ (rest : List ℕ). decimal c.args.price ++ rest) behind_price in
    let all = c.put_before-start.ensures.put ∙ ap (λ (rest : List ℕ). codes ",{\"price\":" ++ rest) price in
    let whole : take (94 - start) (drop start line) ≡ drop start line = search (rules, take_all, length-drop) in
    together_ok _ _ c.push_label.result
    (bid_with_comma (bid_for c.args.product c.args.quantity c.args.price) ∙ sym (whole ∙ all)) c.push_label.ensures
