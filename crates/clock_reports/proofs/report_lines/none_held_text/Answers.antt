-- One step of the loop: the text of one product more.
use Rattle.std.proofs.Common.{◌≡◌, ◌+◌, ◌-◌, ◌++◌, ℕ, suc, List, sym, ap, ◌∙◌, append_assoc, arith}
use Rattle.std.specs.Prelude.{codes}
use Rattle.clock_reports.specs.Writers.{none_held}
use Rattle.clock_reports.proofs.WonLaws.{none_more}
use Rattle.clock_reports.proofs.report_lines.none_held_text.Goals as goal

pub loop-product-preserved : goal.loop-product-preserved
loop-product-preserved c =
    let left = c.args.products - (c.loop-product._product + 1) in
    let more : suc left ≡ c.args.products - c.loop-product._product = omega (arith, c.loop-product-test.true) in
    let text = c.loop-product.text in
    ap (λ (now : List ℕ). now ++ none_held left) c.in_ok-extend_from_slice.ensures.ok
    ∙ append_assoc text (codes "0 ") (none_held left)
    ∙ ap (λ (rest : List ℕ). text ++ rest) (sym (none_more left))
    ∙ ap (λ (n : ℕ). text ++ none_held n) more
    ∙ c.loop-product.invariant
