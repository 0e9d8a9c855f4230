-- Bidder by bidder: those so far have no fault, and at the end none remains.
use Rattle.std.proofs.Common.{◌≡◌, ◌≤◌, ◌<◌, ◌++◌, ◌∷◌, [], List, ℕ, All, length, get_or, take, zip, sym, ap, ◌∙◌}
use Rattle.std.proofs.Common.{None, subst, refl, arith}
use Rattle.std.proofs.lemmas.List.{take_more, take_all}
use Rattle.std.proofs.lemmas.List.Elements.{All-nil, All-push}
use Rattle.std.proofs.lemmas.Slice.Zip.{length-zip}
use Rattle.clock_terms.specs.declared.setup.Bidder.{Bidder}
use Rattle.clock_terms.specs.declared.setup.Product.{Product}
use Rattle.clock_terms.specs.Faults.{first_fault}
use Rattle.clock_terms.specs.Limits.{IsRow, SetupFields}
use Rattle.clock_setup.specs.OpeningDocument.{row_checks}
use Rattle.clock_terms.proofs.FaultLaws.{turn_passed, turn_none}
use Rattle.clock_setup.proofs.OpeningLaws.{row_at, row_line, grid_of_counts}
use Rattle.clock_setup.proofs.opening_scan.are_accepted.Goals.{After-as_slice-bidders}
use Rattle.clock_setup.proofs.opening_scan.are_accepted.Goals as goal

-- the bidders that are read are the set-up's
same : (c : After-as_slice-bidders) → c.as_slice-bidders.result.now ≡ c.args.setup.now.bidders
same c = c.as_slice-bidders.ensures ∙ ap (λ (s : SetupFields). s.bidders) c.setup.view_is

pub loop-number-init : goal.loop-number-init
loop-number-init c =
    record {
      grid = grid_of_counts c.args.setup.now c.args.demands.now (sym c.has_counts.ensures ∙ c.if-not-has_counts.false);
      rest = refl;
      rows = All-nil (IsRow c.args.setup.now.products);
    }

pub loop-number-preserved : goal.loop-number-preserved
loop-number-preserved c =
    let at = (goal.at.loop-number-preserved c).After-as_slice-bidders in
    let setup = c.args.setup.now in
    let demands = c.args.demands.now in
    let number = c.loop-number.number in
    let known = c.loop-number.invariant in
    let bidder = c.index-bidders-number.result in
    let row = c.index-demands-number.result in
    let within : number < length demands =
    omega (arith, known.grid.0, c.loop-number-test.true, ap (λ (list : List Bidder). length list) (same at)) in
    let read : row ≡ get_or demands number [] = row_at demands number row refl within c.index-demands-number.is in
    let line =
    row_line setup.bidders demands number bidder row (same at) c.loop-number-test.true known.grid.0
    c.index-bidders-number.is read in
    let products : c.as_slice-products.result.now ≡ setup.products =
    c.as_slice-products.ensures ∙ ap (λ (s : SetupFields). s.products) c.setup.view_is in
    let passes = subst (λ (list : List Product). first_fault (row_checks list number (bidder, row)) ≡ None) products
    (c.is_accepted.ensures.passed c.if-not-is_accepted.false number) in
    let is_row = subst (λ (list : List Product). IsRow list row) products
    (c.is_accepted.ensures.row c.if-not-is_accepted.false) in
    record {
      grid = known.grid;
      rest = sym (turn_passed (row_checks setup.products) (zip setup.bidders demands) number _ line.1 line.0 passes)
          ∙ known.rest;
      rows = subst (λ (rows : List (List ℕ)). All (IsRow setup.products) rows)
          (ap (λ (one : List ℕ). take number demands ++ one ∷ []) read ∙ sym (take_more demands number [] within))
          (All-push (IsRow setup.products) (take number demands) row known.rows is_row);
    }

pub returns-clause-rows : goal.returns-clause-rows
returns-clause-rows c =
    let at = (goal.at.returns-clause-rows c).After-as_slice-bidders in
    let known = c.loop-number.invariant in
    let past : length c.args.demands.now ≤ c.loop-number.number =
    omega (arith, known.grid.0, c.loop-number-test.false, ap (λ (list : List Bidder). length list) (same at)) in
    λ passes. subst (λ (rows : List (List ℕ)). All (IsRow c.args.setup.now.products) rows)
    (take_all c.loop-number.number c.args.demands.now past) known.rows

pub returns-clause-passed : goal.returns-clause-passed
returns-clause-passed c =
    let at = (goal.at.returns-clause-passed c).After-as_slice-bidders in
    let setup = c.args.setup.now in
    let known = c.loop-number.invariant in
    λ passes. sym known.rest ∙ turn_none (row_checks setup.products) (zip setup.bidders c.args.demands.now)
    c.loop-number.number (omega (
      arith,
      length-zip setup.bidders c.args.demands.now,
      known.grid.0,
      c.loop-number-test.false,
      ap (λ (list : List Bidder). length list) (same at),
    ))
