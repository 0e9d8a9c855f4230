use Rattle.std.proofs.Common.{◌≡◌, ◌++◌, ◌-◌, List, ℕ, ap, codes, decimal, drop, length-drop, rules, sym, take, ◌∙◌}
use Rattle.std.proofs.lemmas.List.{take_all}
use Rattle.std.proofs.lemmas.Fmt.{length-decimal-le}
use Rattle.clock_scripts.proofs.TextPieces.{tie_with_comma, together_ok}
use Rattle.clock_scripts.proofs.bodies.push_tie.Goals as goal

pub write_digits-number_at-requires : goal.write_digits-number_at-requires
write_digits-number_at-requires c = search (rules, length-decimal-le 20)

pub put_before-behind_product-requires-clause-room : goal.put_before-behind_product-requires-clause-room
put_before-behind_product-requires-clause-room c = search (rules, length-decimal-le 20)

pub write_digits-product_at-requires : goal.write_digits-product_at-requires
write_digits-product_at-requires c = search (rules, length-decimal-le 20)

pub put_before-behind_bidder-requires-clause-room : goal.put_before-behind_bidder-requires-clause-room
put_before-behind_bidder-requires-clause-room c = search (rules, length-decimal-le 20)

pub write_digits-bidder_at-requires : goal.write_digits-bidder_at-requires
write_digits-bidder_at-requires c = search (rules, length-decimal-le 20)

pub put_before-start-requires-clause-room : goal.put_before-start-requires-clause-room
put_before-start-requires-clause-room c = search (rules, length-decimal-le 20)

pub returns : goal.returns
returns c =
    let tie = c.args.tie.now in
    let line = c.put_before-start.new.bytes in
    let start = c.put_before-start.result in
    let end : drop c.put_before-end.result c.put_before-end.new.bytes ≡ codes "]" = search rules in
    let number =
    c.write_digits-number_at.ensures.written ∙ ap (λ (rest : List ℕ). decimal tie.number ++ rest) end in
    let behind_product = c.put_before-behind_product.ensures.put ∙ ap (λ (rest : List ℕ). codes "," ++ rest) number in
    let product =
    c.write_digits-product_at.ensures.written ∙ ap (λ (rest : List ℕ). decimal tie.product ++ rest) behind_product in
    let behind_bidder = c.put_before-behind_bidder.ensures.put ∙ ap (λ (rest : List ℕ). codes "," ++ rest) product in
    let bidder =
    c.write_digits-bidder_at.ensures.written ∙ ap (λ (rest : List ℕ). decimal tie.bidder ++ rest) behind_bidder in
    let all = c.put_before-start.ensures.put ∙ ap (λ (rest : List ℕ). codes ",[" ++ rest) bidder in
    let whole : take (65 - start) (drop start line) ≡ drop start line = search (rules, take_all, length-drop) in
    together_ok _ _ c.push_label.result (tie_with_comma tie ∙ sym (whole ∙ all)) c.push_label.ensures
