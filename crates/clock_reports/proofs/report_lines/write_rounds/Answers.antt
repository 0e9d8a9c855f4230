-- The lines of the rounds, one after the other.
use Rattle.std.proofs.Common.{◌≡◌, ◌≤◌, ◌+◌, ◌++◌, List, ℕ, ap, drop, length, map, sym, ◌∙◌, arith}
use Rattle.std.specs.Prelude.{reverse}
use Rattle.std.specs.List.{flat_map}
use Rattle.std.proofs.lemmas.List.{length-map, length-reverse}
use Rattle.clock_terms.specs.Limits.{SetupFields}
use Rattle.clock_posting.specs.SheetText.{sheet_text}
use Rattle.clock_posting.specs.declared.sheet.RoundSheet.{RoundSheet}
use Rattle.clock_device.proofs.Buffers.{way_begins, way_ends, way_on}
use Rattle.clock_closing.specs.declared.closed_round.ClosedRound.{ClosedRound}
use Rattle.clock_house.specs.House.{HouseFields}
use Rattle.clock_reports.proofs.RoundLaws.{drop_next}
use Rattle.clock_reports.proofs.Rows.{no_one}
use Rattle.clock_reports.proofs.report_lines.write_rounds.Goals as goal

abbrev sheets_in : HouseFields → List RoundSheet
sheets_in house = map (λ (closed : ClosedRound). closed.sheet) (reverse house.closed)

sheet_count : (house : HouseFields) → length (sheets_in house) ≡ length house.closed
sheet_count house =
    length-map (reverse house.closed) (λ (closed : ClosedRound). closed.sheet) ∙ length-reverse house.closed

pub loop-round-init : goal.loop-round-init
loop-round-init g c = way_begins _ _

pub loop-round-preserved : goal.loop-round-preserved
loop-round-preserved g c =
    let house = c.args.house.now in
    let sheets = sheets_in house in
    let f : RoundSheet → List ℕ = sheet_text house.setup.products in
    let sheet = c.sheet_at.result.now in
    let rest = flat_map f (drop (c.loop-round.round + 1) sheets) in
    let next = ap (λ (left : List RoundSheet). flat_map f left)
    (drop_next sheets c.loop-round.round sheet c.sheet_at.ensures.is)
    ∙ ap (λ (setup : SetupFields). sheet_text setup.products sheet ++ rest) (sym c.setup.ensures) in
    way_on _ _ _ _ _ _ _ c.write_sheet.ensures next c.loop-round.invariant

pub returns : goal.returns
returns g c =
    let house = c.args.house.now in
    let sheets = sheets_in house in
    let past : length sheets ≤ c.loop-round.round =
    omega (arith, sheet_count house, c.closed_rounds-round-end.ensures, c.loop-round-test.false) in
    way_ends _ _ _ _ (no_one (sheet_text house.setup.products) sheets c.loop-round.round past) c.loop-round.invariant
