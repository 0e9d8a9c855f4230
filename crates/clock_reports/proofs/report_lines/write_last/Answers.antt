-- The lines of the bidders have the prices of the last round, and the processed demands after it.
use Rattle.std.proofs.Common.{◌≡◌, ◌-◌, ℕ, List, [], All, false, length, map, zip, ap, sym, subst, ◌∙◌, arith}
use Rattle.std.specs.Prelude.{reverse, slice_get, slice_index_or}
use Rattle.std.specs.List.{flat_map}
use Rattle.std.proofs.lemmas.List.{length-map, length-reverse}
use Rattle.clock_terms.specs.Limits.{SetupFields}
use Rattle.clock_device.specs.Buffers.{Puts, output}
use Rattle.clock_posting.specs.declared.sheet.Line.{Line}
use Rattle.clock_posting.specs.declared.sheet.RoundSheet.{RoundSheet}
use Rattle.clock_closing.specs.declared.closed_round.ClosedRound.{ClosedRound}
use Rattle.clock_house.specs.House.{HouseFields, holding_in}
use Rattle.clock_reports.specs.ReportText.{last_lines, won_text}
use Rattle.clock_reports.proofs.RoundLaws.{rows_of, index_got}
use Rattle.clock_reports.proofs.report_lines.write_last.Goals as goal

abbrev sheets_in : HouseFields → List RoundSheet
sheets_in house = map (λ (closed : ClosedRound). closed.sheet) (reverse house.closed)

sheet_count : (house : HouseFields) → length (sheets_in house) ≡ length house.closed
sheet_count house =
    length-map (reverse house.closed) (λ (closed : ClosedRound). closed.sheet) ∙ length-reverse house.closed

pub write_wins-requires-clause-rows : goal.write_wins-requires-clause-rows
write_wins-requires-clause-rows g c =
    let house = c.args.house.now in
    let f = λ (bidder : ℕ). (holding_in house bidder).demands in
    subst (λ (setup : SetupFields).
    All (λ (demands : List ℕ). length demands ≡ length setup.products) c.demands.result.now) (sym c.setup.ensures)
    (subst (All (λ (demands : List ℕ). length demands ≡ length house.setup.products)) (sym c.demands.ensures) (rows_of
    house.setup f (length house.setup.bidders) (λ bidder below. (c.law_of_house.ensures.within bidder below).row)))

pub returns : goal.returns
returns g c =
    let house = c.args.house.now in
    let sheets = sheets_in house in
    let last = c.sheet_at-last.result.now in
    let none : RoundSheet = record { round = 0; ended = false; lines = [] } in
    let count : c.closed_rounds.result - 1 ≡ length sheets - 1 =
    omega (arith, c.closed_rounds.ensures, sheet_count house) in
    let is : slice_index_or sheets (length sheets - 1) none ≡ last = index_got sheets (length sheets - 1) last none
    (ap (λ n. slice_get sheets n) (sym count) ∙ c.sheet_at-last.ensures.is) in
    let lines : c.as_slice.result.now ≡ last_lines sheets =
    c.as_slice.ensures ∙ ap (λ (sheet : RoundSheet). sheet.lines) (sym is) in
    let text = ap (λ (list : List Line). flat_map (won_text list) (zip c.setup.result.now.bidders c.demands.result.now))
    lines ∙ ap (λ (setup : SetupFields). flat_map (won_text (last_lines sheets)) (zip setup.bidders
    c.demands.result.now)) c.setup.ensures ∙ ap (λ (rows : List (List ℕ)). flat_map (won_text (last_lines sheets))
    (zip house.setup.bidders rows)) c.demands.ensures in
    subst (Puts (output (g.W.Sink.report c.args.sink.now) c.args.buffer.now)
    (output (g.W.Sink.report c.write_wins.new.sink) c.write_wins.new.buffer)) text c.write_wins.ensures
