-- The text is written from its end to its start, and then copied to the start of an array.
use Rattle.std.proofs.Common.{◌≡◌, ◌++◌, ◌≤◌, List, ℕ, ap, codes, decimal, drop, length, length-drop, replicate, rules}
use Rattle.std.proofs.Common.{◌∙◌}
use Rattle.std.proofs.lemmas.Fmt.{length-decimal-le}
use Rattle.clock_scripts.proofs.PrefixLaws.{prefix_made, regrouped_prefix}
use Rattle.clock_scripts.proofs.prefixes.BidPrefix.new.Goals as goal

pub write_digits-product_at-requires : goal.write_digits-product_at-requires
write_digits-product_at-requires c = search (rules, length-decimal-le 20)

pub put_before-behind_price-requires-clause-room : goal.put_before-behind_price-requires-clause-room
put_before-behind_price-requires-clause-room c = search (rules, length-decimal-le 20)

pub write_digits-price_at-requires : goal.write_digits-price_at-requires
write_digits-price_at-requires c = search (rules, length-decimal-le 20)

pub put_before-start-requires-clause-room : goal.put_before-start-requires-clause-room
put_before-start-requires-clause-room c = search (rules, length-decimal-le 20)

pub invariant_of-result : goal.invariant_of-result
invariant_of-result c =
    let start = c.put_before-start.result in
    let line = c.put_before-start.new.bytes in
    let behind_product = c.put_before-behind_product.ensures.put in
    let product =
    c.write_digits-product_at.ensures.written ∙ ap (λ (rest : List ℕ). decimal c.args.product ++ rest) behind_product in
    let behind_price =
    c.put_before-behind_price.ensures.put ∙ ap (λ (rest : List ℕ). codes ",\"product\":" ++ rest) product in
    let price =
    c.write_digits-price_at.ensures.written ∙ ap (λ (rest : List ℕ). decimal c.args.price ++ rest) behind_price in
    let all = c.put_before-start.ensures.put ∙ ap (λ (rest : List ℕ). codes ",{\"price\":" ++ rest) price in
    let size : length line ≡ 160 = search rules in
    let late : 7 ≤ start = search (rules, length-decimal-le 20) in
    let within : start ≤ 80 = search (rules, length-decimal-le 20) in
    let zeros : List ℕ = replicate 160 0 in
    let rest : List ℕ = drop 80 zeros in
    let room : length rest ≡ 80 = length-drop 80 zeros in
    prefix_made c.args.product c.args.price start line c.copy_from_slice.new.self rest size late
    (all ∙ regrouped_prefix (codes ",{\"price\":") (decimal c.args.price) (codes ",\"product\":")
    (decimal c.args.product) (codes ",\"quantity\":") rest) room within c.copy_from_slice.ensures.after
