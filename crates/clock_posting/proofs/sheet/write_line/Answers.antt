-- Proves the bytes of a product's line, field by field from its end.
use Rattle.std.proofs.Common.{◌≡◌, ◌++◌, ◌-◌, List, ℕ, ap, codes, decimal, drop, length-drop, rules, subst, take, ◌∙◌}
use Rattle.std.proofs.lemmas.List.{take_all}
use Rattle.clock_device.specs.Decimal.{number_or_dash}
use Rattle.clock_device.specs.Buffers.{IsPut, output}
use Rattle.clock_posting.proofs.SheetLines.{line_added}
use Rattle.clock_posting.proofs.sheet.write_line.Goals as goal

pub returns : goal.returns
returns g c start text put =
    let line = c.args.line.now in
    let field : List ℕ → List ℕ → List ℕ = λ number rest. codes " " ++ (number ++ rest) in
    let end : drop c.put_before-end.result c.put_before-end.new.bytes ≡ codes "\n" = search rules in
    let next = c.put_field-next.ensures.put ∙ ap (field (number_or_dash line.next)) end in
    let demand = c.put_field-demand.ensures.put ∙ ap (field (number_or_dash line.demand)) next in
    let posted = c.put_field-posted.ensures.put ∙ ap (λ (n : ℕ). field (decimal n) (drop c.put_field-demand.result
    c.put_field-demand.new.bytes)) c.get.ensures.value ∙ ap (field (decimal line.posted)) demand in
    let clock = c.put_field-clock.ensures.put ∙ ap (λ (n : ℕ). field (decimal n) (drop c.put_field-posted.result
    c.put_field-posted.new.bytes)) c.get-2.ensures.value ∙ ap (field (decimal line.clock)) posted in
    let start_is = c.put_field-start.ensures.put ∙ ap (λ (n : ℕ). field (decimal n) (drop c.put_field-clock.result
    c.put_field-clock.new.bytes)) c.get-3.ensures.value ∙ ap (field (decimal line.start)) clock in
    let from = c.put_field-start.result in
    let whole : take (106 - from) (drop from c.put_field-start.new.bytes) ≡ drop from c.put_field-start.new.bytes =
    search (rules, take_all, length-drop) in
    let numbers = take (106 - from) (drop from c.put_field-start.new.bytes) in
    let named : c.as_slice.result.now ≡ c.args.product.now.name = c.as_slice.ensures in
    let all = ap (λ (name : List ℕ). (text ++ name) ++ numbers) named
    ∙ line_added text c.args.product.now.name numbers _ _ _ _ _ (whole ∙ start_is) in
    subst (IsPut start (output (g.W.Sink.report c.put-2.new.sink) c.put-2.new.self)) all
    (c.put-2.ensures start (text ++ c.as_slice.result.now) (c.put.ensures start text put))
