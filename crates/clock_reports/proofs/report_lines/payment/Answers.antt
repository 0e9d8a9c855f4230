-- The loop visits only positive demands: those of 0 between them cost nothing.
use Rattle.std.proofs.Common.{◌≡◌, ◌≤◌, ◌<◌, ◌+◌, ◌*◌, min, ℕ, List, length, drop, ap, sym, subst, ◌∙◌, arith}
use Rattle.std.specs.Prelude.{slice_index, slice_index_or}
use Rattle.std.specs.List.{AllWithin}
use Rattle.std.proofs.lemmas.List.{drop_all}
use Rattle.std.proofs.lemmas.Nat.{mul-le}
use Rattle.clock_posting.specs.declared.sheet.Line.{Line}
use Rattle.clock_reports.specs.ReportText.{payment}
use Rattle.clock_reports.proofs.WonLaws.{paid_at, free}
use Rattle.clock_reports.proofs.report_lines.payment.Goals as goal

-- the demands of 0 that the iterator skips cost nothing
unpaid : (lines : List Line) (row demands : List ℕ) (from to : ℕ) → length demands ≡ length lines → row ≡ demands
    → min from (length demands) ≤ to → to ≤ length demands → AllWithin (λ demand. demand ≡ 0) row from to
    → payment (drop (min from (length demands)) lines) (drop (min from (length demands)) demands)
    ≡ payment (drop to lines) (drop to demands)
unpaid lines row demands from to same is order within none =
    free lines demands (min from (length demands)) to same order within (λ k d low high.
    subst (λ (list : List ℕ). slice_index_or list k d ≡ 0) is (none k d (omega (arith, low, high, within)) high))

pub held-init : goal.held-init
held-init c =
    let demands = c.args.demands.now in
    let to = min c.held-held.result.from (length demands) in
    let whole = free c.args.lines.now demands 0 to c.requires.each (omega arith) (omega arith)
    (λ k d low high. c.held-held.ensures.passed k d low (omega (arith, high))) in
    record {
      row = c.held-held.ensures.row;
      so_far = omega (arith, whole);
      small = omega arith;
    }

pub held-preserved : goal.held-preserved
held-preserved c =
    let row = c.args.demands.now in
    let lines = c.args.lines.now in
    let product = c.in-Some.one.product in
    let found = c.in-Some.ensures in
    let same = c.held.invariant.row in
    let within : product < length row = subst (λ (demands : List ℕ). product < length demands) same found.within in
    let demand = found.demand ∙ ap (λ (demands : List ℕ). slice_index demands product) same in
    let from = min c.held.held.from (length row) in
    let to = min c.next.new.self.from (length row) in
    let before : payment (drop from lines) (drop from row) ≡ payment (drop product lines) (drop product row) =
    unpaid lines c.held.held.demands row c.held.held.from product c.requires.each same (omega (arith, found.least))
    (omega (arith, within)) found.passed in
    let here = paid_at lines row product c.in-Some.one.demand c.index-lines-one.result c.requires.each within
    c.index-lines-one.is demand in
    let behind : payment (drop (product + 1) lines) (drop (product + 1) row) ≡ payment (drop to lines) (drop to row) =
    free lines row (product + 1) to c.requires.each (omega (arith, within, found.given)) (omega arith) (λ k d low high.
    subst (λ (demands : List ℕ). slice_index_or demands k d ≡ 0) same (found.ahead k d low (omega (arith, high)))) in
    let cost : c.get.result * c.in-Some.one.demand ≡ c.index-lines-one.result.posted * c.in-Some.one.demand =
    ap (λ (posted : ℕ). posted * c.in-Some.one.demand)
    (c.get.ensures.value ∙ ap (λ (line : Line). line.posted) (sym c.index-lines-one.is)) in
    let price : c.get.result * c.in-Some.one.demand ≤ 1000000000000 * 1000 =
    mul-le c.get.result c.in-Some.one.demand 1000000000000 1000 c.get.ensures.in_range.1 found.small in
    record {
      row = found.row ∙ same;
      so_far = omega (arith, cost, before, here, behind, c.held.invariant.so_far);
      small = omega (arith, price, c.held.invariant.small, found.least, found.given);
    }

pub returns : goal.returns
returns c =
    let row = c.args.demands.now in
    let lines = c.args.lines.now in
    let from = min c.held.held.from (length row) in
    let end : payment (drop from lines) (drop from row) ≡ payment (drop (length row) lines) (drop (length row) row) =
    unpaid lines c.held.held.demands row c.held.held.from (length row) c.requires.each c.held.invariant.row
    (omega arith) (omega arith) (subst (λ (demands : List ℕ). AllWithin (λ demand. demand
    ≡ 0) c.held.held.demands c.held.held.from (length demands)) c.held.invariant.row c.in_default.ensures.passed) in
    let none : payment (drop (length row) lines) (drop (length row) row) ≡ 0 = ap (λ (left : List Line). payment left
    (drop (length row) row)) (drop_all (length row) lines (omega (arith, c.requires.each))) in
    omega (arith, end, none, c.held.invariant.so_far)
