-- The limits of a report follow from the laws of the house: its set-up, its closed rounds, and its processed demands.
use Rattle.std.proofs.Common.{◌≡◌, ◌≤◌, ℕ, List, All, length, ap, sym, subst, ◌∙◌, arith}
use Rattle.std.specs.Prelude.{reverse, map}
use Rattle.std.specs.List.{range_with_len}
use Rattle.std.proofs.lemmas.List.{length-map, length-reverse}
use Rattle.std.proofs.lemmas.List.FromFn.{length-map-range_with_len}
use Rattle.clock_terms.specs.Limits.{SetupFields, IsSetup}
use Rattle.clock_posting.specs.declared.sheet.RoundSheet.{RoundSheet}
use Rattle.clock_closing.specs.declared.closed_round.ClosedRound.{ClosedRound}
use Rattle.clock_house.specs.House.{holding_in}
use Rattle.clock_reports.proofs.RoundLaws.{numbered_in, lined, rows_of}
use Rattle.clock_reports.proofs.report.report_so_far.Goals as goal

pub invariant_of-result : goal.invariant_of-result
invariant_of-result g c =
    let house = c.args.house.now in
    let closed = house.closed in
    let sheets = c.in_ok-sheets.sheets in
    let grid = c.in_ok-grid.grid in
    let f = λ (bidder : ℕ). (holding_in house bidder).demands in
    let held : grid ≡ map f (range_with_len 0 (length house.setup.bidders)) =
    c.in_ok-grid.ensures ∙ c.demands.ensures in
    let same : c.in_ok-copy.field-0 ≡ house.setup = c.in_ok-copy.ensures ∙ c.setup.ensures in
    let reported = c.in_ok-sheets.ensures.same in
    let many = length-map (reverse closed) (λ (round : ClosedRound). round.sheet) in
    let order = numbered_in house c.law_of_house.ensures.stands c.law_of_house.ensures.sound in
    record {
      setup = subst IsSetup (sym same) c.law_of_house.ensures.limits;
      some = subst (λ (list : List RoundSheet). 1 ≤ length list) (sym reported)
          (omega (arith, many, length-reverse closed, c.requires));
      each = subst (λ (setup : SetupFields). All (λ (sheet : RoundSheet). length sheet.lines ≡ length setup.products)
          sheets) (sym same) (subst (All (λ (sheet : RoundSheet). length sheet.lines ≡ length house.setup.products))
          (sym reported) (lined house.setup closed order));
      priced = c.in_ok-sheets.ensures.priced;
      bidders = ap (λ (rows : List (List ℕ)). length rows) held ∙ length-map-range_with_len f 0
          (length house.setup.bidders) ∙ sym (ap (λ (setup : SetupFields). length setup.bidders) same);
      rows = subst (λ (setup : SetupFields). All (λ (demands : List ℕ). length demands ≡ length setup.products) grid)
          (sym same) (subst (All (λ (demands : List ℕ). length demands ≡ length house.setup.products)) (sym held)
          (rows_of house.setup f (length house.setup.bidders)
          (λ bidder below. (c.law_of_house.ensures.within bidder below).row)));
    }
