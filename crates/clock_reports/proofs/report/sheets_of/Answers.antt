-- The loop copies the results of one round after another.
use Rattle.std.proofs.Common.{◌≡◌, List, [], ◌∷◌, ◌++◌, All, map, ap, sym, subst, ◌∙◌, arith}
use Rattle.std.specs.Prelude.{reverse, Some, slice_get}
use Rattle.std.proofs.lemmas.List.{length-map, length-reverse, take_all}
use Rattle.std.proofs.lemmas.List.Elements.{All-push}
use Rattle.clock_posting.specs.declared.sheet.RoundSheet.{RoundSheet}
use Rattle.clock_closing.specs.declared.closed_round.ClosedRound.{ClosedRound}
use Rattle.clock_reports.specs.Reports.{IsPricedLine}
use Rattle.clock_reports.proofs.RoundLaws.{take_next}
use Rattle.clock_reports.proofs.report.sheets_of.Goals as goal

pub loop-round-preserved : goal.loop-round-preserved
loop-round-preserved g c =
    let all = map (λ (closed : ClosedRound). closed.sheet) (reverse c.args.house.now.closed) in
    let sheet = c.sheet_at-sheet.result.now in
    let copy = c.in_ok-copy.field-0 in
    let is : slice_get all c.loop-round.round ≡ Some copy =
    c.sheet_at-sheet.ensures.is ∙ ap (λ (one : RoundSheet). Some one) (sym c.in_ok-copy.ensures) in
    let P : RoundSheet → Type 0 = λ sheet. All IsPricedLine sheet.lines in
    let priced : P copy =
    subst P (sym c.in_ok-copy.ensures) (subst (All IsPricedLine) c.as_slice.ensures c.law_of_prices.ensures) in
    record {
      same = c.in_ok-push.ensures.ok ∙ ap (λ (so_far : List RoundSheet). so_far ++ copy
          ∷ []) c.loop-round.invariant.same ∙ sym (take_next all c.loop-round.round copy is);
      priced = subst (All P) (sym c.in_ok-push.ensures.ok)
          (All-push P c.loop-round.sheets copy c.loop-round.invariant.priced priced);
    }

pub returns-clause-same : goal.returns-clause-same
returns-clause-same g c =
    let closed = c.args.house.now.closed in
    let all = map (λ (closed : ClosedRound). closed.sheet) (reverse closed) in
    c.loop-round.invariant.same
    ∙ take_all c.loop-round.round all
    (omega (
      arith,
      length-map (reverse closed) (λ (closed : ClosedRound). closed.sheet),
      length-reverse closed,
      c.closed_rounds-round-end.ensures,
    ))
