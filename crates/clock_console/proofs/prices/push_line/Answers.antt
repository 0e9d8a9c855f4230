-- Proves the bytes of a price line, piece by piece from its end.
use Rattle.std.proofs.Common.{◌≡◌, ◌++◌, ◌-◌, Option, ℕ, ap, codes, decimal, drop, length-drop, rules, take, ◌∙◌}
use Rattle.std.proofs.lemmas.List.{take_all}
use Rattle.clock_device.specs.Decimal.{number_or_dash}
use Rattle.clock_money.specs.Price.{raise}
use Rattle.clock_console.proofs.PriceLines.{line_added}
use Rattle.clock_console.proofs.prices.push_line.Goals as goal

pub returns : goal.returns
returns c =
    let end : drop c.put_before-end.result c.put_before-end.new.bytes ≡ codes "\n" = search rules in
    let clock = c.put_or_dash-clock_at.ensures.put ∙ ap (λ (price : Option ℕ). number_or_dash price
    ++ drop c.put_before-end.result c.put_before-end.new.bytes) c.clock_price-clock.ensures.exact
    ∙ ap (λ rest. number_or_dash (raise c.args.opening c.args.increment c.args.granule) ++ rest)
    end in
    let behind = c.put_before-behind_opening.ensures.put ∙ ap (λ rest. codes " " ++ rest) clock in
    let opening = c.put_or_dash-opening_at.ensures.put
    ∙ ap (λ rest. decimal c.args.opening ++ rest) behind in
    let all = c.put_before-start.ensures.put ∙ ap (λ rest. codes " " ++ rest) opening in
    let from = c.put_before-start.result in
    let whole : take (43 - from) (drop from c.put_before-start.new.bytes) ≡ drop from c.put_before-start.new.bytes =
    search (rules, take_all, length-drop) in
    line_added c.args.text.now c.args.name.now c.extend_from_slice-2.new.self _ _ _
    c.extend_from_slice-2.result (search rules) (whole ∙ all)
