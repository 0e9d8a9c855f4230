-- The line of the round comes first, then those of the products, one after the other.
use Rattle.std.proofs.Common.{◌≡◌, ◌<◌, ◌≤◌, ◌+◌, ◌++◌, ℕ, List, [], ap₂, drop, get_or, length, rules, sym}
use Rattle.std.proofs.Common.{codes, decimal, subst, ◌∙◌}
use Rattle.std.proofs.lemmas.List.{drop_all, drop_more}
use Rattle.clock_terms.specs.declared.setup.Product.{Product}
use Rattle.clock_posting.specs.declared.sheet.Line.{Line}
use Rattle.clock_device.specs.Buffers.{Puts, output}
use Rattle.clock_posting.specs.SheetText.{line_text, lines_text}
use Rattle.clock_device.proofs.Buffers.{put_twice, way_begins, way_ends, way_on}
use Rattle.clock_posting.proofs.sheet.write_sheet.Goals as goal

-- the line of the next product comes first
next_line : (products : List Product) (lines : List Line) (i : ℕ) (product : Product) (line : Line)
    → i < length products → i < length lines → product ≡ get_or products i product → line ≡ get_or lines i line
    → lines_text (drop i products) (drop i lines)
    ≡ line_text product line ++ lines_text (drop (i + 1) products) (drop (i + 1) lines)
next_line products lines i product line within lined product_is line_is =
    ap₂ (λ (left : List Product) (rows : List Line). lines_text left rows) (drop_more products i product within)
    (drop_more lines i line lined) ∙ ap₂ (λ (first : Product) (row : Line). line_text first row
    ++ lines_text (drop (i + 1) products) (drop (i + 1) lines)) (sym product_is) (sym line_is)

pub loop-i-init : goal.loop-i-init
loop-i-init g c = way_begins _ _

pub loop-i-preserved : goal.loop-i-preserved
loop-i-preserved g c =
    let products = c.as_slice-products.result.now in
    let lines = c.args.sheet.now.lines in
    let i = c.loop-i.i in
    let lined : i < length lines =
    subst (λ (list : List Line). i < length list) c.deref-line-items.ensures c.loop-i-test.true in
    let within : i < length products = search rules in
    let line_is = subst (λ (list : List Line). c.line-item.result ≡ get_or list i c.line-item.result)
    c.deref-line-items.ensures c.line-item.is in
    way_on _ _ _ _ _ _ _ c.write_line.ensures (next_line products lines i c.index-products-i.result c.line-item.result
    within lined c.index-products-i.is line_is) c.loop-i.invariant

pub returns : goal.returns
returns g c =
    let products = c.as_slice-products.result.now in
    let lines = c.args.sheet.now.lines in
    let i = c.loop-i.i in
    let now = output (g.W.Sink.report c.loop-i.sink) c.loop-i.buffer in
    let past : length lines ≤ i =
    subst (λ (list : List Line). length list ≤ i) c.deref-line-items.ensures c.loop-i-test.false in
    let beyond : length products ≤ i = search rules in
    let named : products ≡ c.args.setup.now.products = search rules in
    let none : lines_text (drop i products) (drop i lines) ≡ [] =
    ap₂ (λ (left : List Product) (rows : List Line). lines_text left rows) (drop_all i products beyond)
    (drop_all i lines past) in
    let first = put_twice _ _ _ (codes "round ") (decimal c.args.sheet.now.round) c.put.ensures c.put_number.ensures in
    let line = put_twice _ _ _ _ (codes "\n") first c.put-2.ensures in
    let all = put_twice _ _ now _ (lines_text products lines) line (way_ends _ now _ _ none c.loop-i.invariant) in
    subst (λ (left : List Product). Puts (output (g.W.Sink.report c.args.sink.now) c.args.buffer.now) now
    (codes "round " ++ decimal c.args.sheet.now.round ++ codes "\n" ++ lines_text left lines))
    named all
