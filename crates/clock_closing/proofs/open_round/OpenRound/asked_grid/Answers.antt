-- Proves that the loop builds the requested demands row by row.
use Rattle.std.proofs.Common.{◌≡◌, ◌++◌, ◌∷◌, [], ℕ, List, All, length, ap, sym, subst, ◌∙◌, arith}
use Rattle.std.specs.Prelude.{IfOk, map}
use Rattle.std.specs.List.{range_with_len}
use Rattle.std.proofs.lemmas.List.Elements.{All-append, All-cons, All-nil}
use Rattle.std.proofs.lemmas.List.FromFn.{length-map-range_with_len, map-range_with_len_more}
use Rattle.clock_terms.specs.Limits.{IsRow}
use Rattle.clock_bids.specs.Sheet.{asked_demands}
use Rattle.clock_closing.specs.OpenRound.{bids_at}
use Rattle.clock_closing.proofs.open_round.OpenRound.asked_grid.Goals as goal

pub asked_row-requires : goal.asked_row-requires
asked_row-requires c = omega (arith, c.loop-bidder-test.true, c.bidders-bidder-end.ensures.each)

pub loop-bidder-preserved : goal.loop-bidder-preserved
loop-bidder-preserved c =
    let round = c.args.self.now in
    let f = λ (bidder : ℕ). asked_demands (length round.setup.products) (bids_at round.before.sheets bidder) in
    let bidder = c.loop-bidder.bidder in
    let row = c.in_ok-asked_row.field-0 in
    let pushed : c.push.new.self.items ≡ c.loop-bidder.rows.items ++ row ∷ [] = c.in_ok-push.ensures.items in
    record {
      asked = pushed
          ∙ ap (λ (rows : List (List ℕ)). rows ++ row ∷ []) c.loop-bidder.invariant.asked
          ∙ ap (λ (one : List ℕ). map f (range_with_len 0 bidder) ++ one ∷ []) c.in_ok-asked_row.ensures.asked
          ∙ sym (map-range_with_len_more f 0 bidder bidder (omega arith));
      rows = subst (λ (rows : List (List ℕ)). All (IsRow round.setup.products) rows) (sym pushed)
          (All-append (IsRow round.setup.products) c.loop-bidder.rows.items (row ∷ []) c.loop-bidder.invariant.rows
          (All-cons (IsRow round.setup.products) row [] c.in_ok-asked_row.ensures.row
          (All-nil (IsRow round.setup.products))));
    }

pub of_rows-requires-clause-bidders : goal.of_rows-requires-clause-bidders
of_rows-requires-clause-bidders c =
    let round = c.args.self.now in
    let f = λ (bidder : ℕ). asked_demands (length round.setup.products) (bids_at round.before.sheets bidder) in
    omega (
      arith,
      ap (λ (rows : List (List ℕ)). length rows) c.loop-bidder.invariant.asked,
      length-map-range_with_len f 0 c.loop-bidder.bidder,
      c.loop-bidder-test.false,
      c.loop-bidder.auto.bidder-end,
      c.bidders-bidder-end.ensures.each,
      ap (λ fields. length fields.setup.bidders) c.self.view_is,
    )

pub returns : goal.returns
returns c =
    let round = c.args.self.now in
    let f = λ (bidder : ℕ). asked_demands (length round.setup.products) (bids_at round.before.sheets bidder) in
    let done : c.loop-bidder.bidder ≡ c.bidders-bidder-end.result = omega arith in
    subst (λ (rows : List (List ℕ)). IfOk c.of_rows.result (λ grid. grid ≡ rows))
    (c.loop-bidder.invariant.asked ∙ ap (λ (n : ℕ). map f (range_with_len 0 n))
    (done ∙ c.bidders-bidder-end.ensures.held)) c.of_rows.ensures
