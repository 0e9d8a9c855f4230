-- The loop leaves the first fault of the remaining bidders as the first fault of all; at the end none remains.
use Rattle.std.proofs.Common.{◌≡◌, ◌≤◌, ◌++◌, ◌∷◌, [], List, ℕ, All, None, length, get_or, take, drop, zip, sym, ap}
use Rattle.std.proofs.Common.{◌∙◌, subst, refl, arith}
use Rattle.std.proofs.lemmas.List.{take_more, take_all}
use Rattle.std.proofs.lemmas.List.Elements.{All-nil, All-push}
use Rattle.std.proofs.lemmas.Result.{err_from_is_err_and}
use Rattle.std.proofs.lemmas.Slice.Zip.{length-zip}
use Rattle.clock_terms.specs.Demands.{IsGrid}
use Rattle.clock_terms.specs.Faults.{first_fault, in_turn}
use Rattle.clock_terms.specs.Limits.{IsRow, SetupFields}
use Rattle.clock_setup.specs.OpeningDocument.{row_checks}
use Rattle.clock_terms.proofs.FaultLaws.{turn_passed, turn_failed, turn_none}
use Rattle.clock_setup.proofs.OpeningLaws.{row_at, row_line, grid_of_counts, counts_refused, rows_refused}
use Rattle.clock_setup.proofs.OpeningLaws.{increment_refused, opened}
use Rattle.clock_setup.proofs.opening.opening_grid.Goals as goal

module _ (setup : SetupFields) (demands : List (List ℕ)) (number : ℕ)
    (grid : IsGrid (length setup.bidders) (length setup.products) demands) (past : length setup.bidders ≤ number) where
  -- after the last bidder, all rows are in the list
  rows_all : (rows : List (List ℕ)) → rows ≡ take number demands → rows ≡ demands
  rows_all rows same = same ∙ take_all number demands (omega (arith, grid.0, past))

  -- and no bidder had a fault
  rows_pass : first_fault (in_turn (row_checks setup.products) number (drop number (zip setup.bidders demands)))
      ≡ first_fault (in_turn (row_checks setup.products) 0 (zip setup.bidders demands))
      → first_fault (in_turn (row_checks setup.products) 0 (zip setup.bidders demands)) ≡ None
  rows_pass rest = sym rest ∙ turn_none (row_checks setup.products) (zip setup.bidders demands) number
      (omega (arith, length-zip setup.bidders demands, grid.0, past))

pub returns-then-not-has_counts-clause-err : goal.returns-then-not-has_counts-clause-err
returns-then-not-has_counts-clause-err c = λ known. counts_refused c.args.setup.now c.args.demands.now c.args.increment
    (sym c.has_counts.ensures ∙ c.if-not-has_counts.true)

pub loop-number-init : goal.loop-number-init
loop-number-init c =
    record {
      grid = grid_of_counts c.args.setup.now c.args.demands.now (sym c.has_counts.ensures ∙ c.if-not-has_counts.false);
      rest = refl;
      same = c.in_ok-rows.ensures.items;
      rows = subst (λ (rows : List (List ℕ)). All (IsRow c.args.setup.now.products) rows)
          (sym c.in_ok-rows.ensures.items) (All-nil (IsRow c.args.setup.now.products));
    }

pub returns-in_err-row-clause-err : goal.returns-in_err-row-clause-err
returns-in_err-row-clause-err c =
    let setup = c.args.setup.now in
    let number = c.loop-number.number in
    let bidders = c.as_slice-bidders.ensures ∙ ap (λ (s : SetupFields). s.bidders) c.setup.view_is in
    let grid = c.loop-number.invariant.grid.0 in
    let read = row_at c.args.demands.now number c.index-deref-number.result c.deref.ensures
    (omega (arith, grid, c.loop-number-test.true, ap length bidders)) c.index-deref-number.is in
    let line = row_line setup.bidders c.args.demands.now number c.index-bidders-number.result
    c.deref-in-loop-number.result.now bidders c.loop-number-test.true grid c.index-bidders-number.is
    (c.deref-in-loop-number.ensures ∙ read) in
    let reported = err_from_is_err_and c.from_residual-in_err-row.result c.from_residual-in_err-row.ensures.1 in
    rw (reported.1, reported.2) (λ known. rows_refused setup c.args.demands.now c.args.increment _
    (sym c.has_counts.ensures ∙ c.if-not-has_counts.false) (sym c.loop-number.invariant.rest ∙ turn_failed (row_checks
    setup.products) (zip setup.bidders c.args.demands.now) number _ _ line.1 line.0 (c.in_err-row.ensures.err known)))

pub loop-number-preserved : goal.loop-number-preserved
loop-number-preserved c =
    let setup = c.args.setup.now in
    let demands = c.args.demands.now in
    let number = c.loop-number.number in
    let known = c.loop-number.invariant in
    let bidders = c.as_slice-bidders.ensures ∙ ap (λ (s : SetupFields). s.bidders) c.setup.view_is in
    let read : c.deref-in-loop-number.result.now ≡ get_or demands number [] = c.deref-in-loop-number.ensures
    ∙ row_at demands number c.index-deref-number.result c.deref.ensures
    (omega (arith, known.grid.0, c.loop-number-test.true, ap length bidders)) c.index-deref-number.is in
    let line = row_line setup.bidders demands number c.index-bidders-number.result c.deref-in-loop-number.result.now
    bidders c.loop-number-test.true known.grid.0 c.index-bidders-number.is read in
    let row = c.in_ok-row.row in
    let pushed = c.in_ok-push.ensures.items in
    record {
      grid = known.grid;
      rest = sym (turn_passed (row_checks setup.products)
          (zip setup.bidders demands) number _ line.1 line.0 c.in_ok-row.ensures.ok) ∙ known.rest;
      same = pushed
          ∙ ap (λ (rows : List (List ℕ)). rows ++ row ∷ []) known.same
          ∙ ap (λ (one : List ℕ). take number demands ++ one ∷ []) (c.in_ok-row.ensures.same ∙ read)
          ∙ sym (take_more demands number [] (omega (arith, known.grid.0, c.loop-number-test.true, ap length bidders)));
      rows = subst (λ (rows : List (List ℕ)). All (IsRow setup.products) rows) (sym pushed)
          (All-push (IsRow setup.products) c.loop-number.rows.items row known.rows c.in_ok-row.ensures.row);
    }

pub returns-then-not-is_within-clause-err : goal.returns-then-not-is_within-clause-err
returns-then-not-is_within-clause-err c = λ known.
    let bidders = c.as_slice-bidders.ensures ∙ ap (λ (s : SetupFields). s.bidders) c.setup.view_is in
    increment_refused c.args.setup.now c.args.demands.now c.args.increment
    (sym c.has_counts.ensures ∙ c.if-not-has_counts.false) (rows_pass c.args.setup.now c.args.demands.now
    c.loop-number.number c.loop-number.invariant.grid (omega (arith, ap length bidders, c.loop-number-test.false))
    c.loop-number.invariant.rest) (sym c.is_within.ensures ∙ c.if-not-is_within.true)

pub of_rows-requires-clause-bidders : goal.of_rows-requires-clause-bidders
of_rows-requires-clause-bidders c =
    let bidders = c.as_slice-bidders.ensures ∙ ap (λ (s : SetupFields). s.bidders) c.setup.view_is in
    ap length (rows_all c.args.setup.now c.args.demands.now c.loop-number.number c.loop-number.invariant.grid
    (omega (arith, ap length bidders, c.loop-number-test.false)) c.loop-number.rows.items c.loop-number.invariant.same)
    ∙ c.loop-number.invariant.grid.0

pub returns-clause-ok : goal.returns-clause-ok
returns-clause-ok c =
    let setup = c.args.setup.now in
    let bidders = c.as_slice-bidders.ensures ∙ ap (λ (s : SetupFields). s.bidders) c.setup.view_is in
    let past : length setup.bidders ≤ c.loop-number.number =
    omega (arith, ap length bidders, c.loop-number-test.false) in
    opened setup c.args.demands.now c.args.increment c.in_ok-of_rows.field-0
    (c.in_ok-of_rows.ensures ∙ rows_all setup c.args.demands.now c.loop-number.number c.loop-number.invariant.grid past
    c.loop-number.rows.items c.loop-number.invariant.same) (sym c.has_counts.ensures ∙ c.if-not-has_counts.false)
    (rows_pass setup c.args.demands.now c.loop-number.number c.loop-number.invariant.grid past
    c.loop-number.invariant.rest) (sym c.is_within.ensures ∙ c.if-not-is_within.false)

pub returns-clause-grid : goal.returns-clause-grid
returns-clause-grid c =
    let setup = c.args.setup.now in
    let bidders = c.as_slice-bidders.ensures ∙ ap (λ (s : SetupFields). s.bidders) c.setup.view_is in
    let past : length setup.bidders ≤ c.loop-number.number =
    omega (arith, ap length bidders, c.loop-number-test.false) in
    subst (λ (grid : List (List ℕ)). IsGrid (length setup.bidders) (length setup.products) grid)
    (sym (c.in_ok-of_rows.ensures ∙ rows_all setup c.args.demands.now c.loop-number.number c.loop-number.invariant.grid
    past c.loop-number.rows.items c.loop-number.invariant.same)) c.loop-number.invariant.grid
