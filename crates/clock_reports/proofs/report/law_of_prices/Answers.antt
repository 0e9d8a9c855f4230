-- One step of the loop: the type of prices bounds the three prices of the next line.
use Rattle.std.proofs.Common.{◌≡◌, ℕ, suc, ◌+◌, All, take, sym, subst, arith, rules}
use Rattle.std.proofs.Math.Seq.{take-suc}
use Rattle.std.proofs.lemmas.List.Elements.{All-push}
use Rattle.clock_reports.specs.Reports.{IsPricedLine}
use Rattle.clock_reports.proofs.report.law_of_prices.Goals as goal

pub loop-line-preserved : goal.loop-line-preserved
loop-line-preserved c =
    let line = c.line-item.result in
    let priced : IsPricedLine line = record { start = search rules; clock = search rules; posted = search rules } in
    let one : suc c.loop-line.line-index ≡ c.loop-line.line-index + 1 = omega arith in
    subst (λ (n : ℕ). All IsPricedLine (take n c.args.lines.now)) one
    (subst (All IsPricedLine) (sym (take-suc c.args.lines.now c.loop-line.line-index line c.loop-line-test.true))
    (All-push IsPricedLine _ _ c.loop-line.invariant (subst IsPricedLine c.line-item.is priced)))
