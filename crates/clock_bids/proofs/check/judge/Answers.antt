-- One step of the loop: each of the two ways to find the last bid for the product finds it, and with it the bid's
-- first fault is the one of the rules. The activity so far has the units of that last bid, so that the subtraction is
-- safe.
use Rattle.std.proofs.Common.{◌≡◌, ◌+◌, ◌*◌, ◌≤◌, List, ℕ, length, take, ◌∙◌, ap, sym, subst, arith, get_or, rules}
use Rattle.std.specs.Prelude.{None}
use Rattle.std.specs.Option.{option_copied}
use Rattle.clock_terms.specs.declared.setup.Product.{Product}
use Rattle.clock_terms.specs.Limits.{IsRow}
use Rattle.clock_bids.specs.inside.Chains.{last_bids, quantity_of}
use Rattle.clock_bids.specs.inside.Judged.{AreJudgedBelow}
use Rattle.clock_bids.specs.inside.LastBids.{IsTableBefore}
use Rattle.clock_bids.proofs.Tables.{no_bid}
use Rattle.clock_bids.proofs.LastBids.{none_below, known_all, below_more, table_later}
use Rattle.clock_bids.proofs.Judging.{none_judged, none_at_fault}
use Rattle.clock_bids.proofs.Judging.{all_taken, fault_found, known, units_held, judged_more}
use Rattle.clock_bids.proofs.check.judge.Goals as goal
use Rattle.clock_bids.proofs.check.judge.Goals.{In_default, then-bid-least}
use Rattle.clock_bids.proofs.check.judge.Goals.{else-bid-least+in_ok-last}

pub bids-init : goal.bids-init
bids-init c = record {
  row = c.first_held-next.ensures.row ∙ c.held-held.ensures.row;
  next = c.first_held-next.ensures.demand;
  judged = record {
    judged = none_judged c.args.setup.now.products c.args.prices.now c.args.demands.now c.args.bids.now;
    below = λ k d within. absurd (omega (arith, within));
  };
  table = record {
    order = omega arith;
    table = λ none. absurd (omega (arith, none));
  };
}

pub earlier_bid-requires-clause-few : goal.earlier_bid-requires-clause-few
earlier_bid-requires-clause-few c = c.requires.few

pub earlier_bid-requires-clause-place : goal.earlier_bid-requires-clause-place
earlier_bid-requires-clause-place c = omega (arith, c.bids-test.true)

pub earlier_bid-requires-clause-known : goal.earlier_bid-requires-clause-known
earlier_bid-requires-clause-known c =
    let same = c.as_slice-products.ensures ∙ ap (λ s. s.products) c.setup.view_is in
    known_all c.args.setup.now.products c.as_slice-products.result.now (take c.bids.judged.count c.args.bids.now) same
    c.bids.invariant.judged.judged.good.known

pub earlier_bid-requires-clause-table : goal.earlier_bid-requires-clause-table
earlier_bid-requires-clause-table c =
    let same = c.as_slice-products.ensures ∙ ap (λ s. s.products) c.setup.view_is in
    subst (λ (ps : List Product). IsTableBefore (length ps) c.args.bids.now c.bids.judged.count c.bids.table.placed
    c.bids.table.places.items) (sym same) c.bids.invariant.table

pub bid_fault-requires-clause-prices : goal.bid_fault-requires-clause-prices
bid_fault-requires-clause-prices c =
    let same = c.as_slice-products.ensures ∙ ap (λ s. s.products) c.setup.view_is in
    c.requires.prices ∙ sym (ap (λ (ps : List Product). length ps) same)

pub bid_fault-requires-clause-demands : goal.bid_fault-requires-clause-demands
bid_fault-requires-clause-demands c =
    let same = c.as_slice-products.ensures ∙ ap (λ s. s.products) c.setup.view_is in
    subst (λ (ps : List Product). IsRow ps c.args.demands.now) (sym same) c.requires.demands

pub returns-in-Some-clause-fault : goal.returns-in-Some-clause-fault
returns-in-Some-clause-fault c _ =
    let list = c.args.setup.now.products in
    let bids = c.args.bids.now in
    let i = c.bids.judged.count in
    let bid = get_or bids i no_bid in
    let seen = c.as_slice-products.result.now in
    let same = c.as_slice-products.ensures ∙ ap (λ s. s.products) c.setup.view_is in
    let last : option_copied c.if-bid-least.last ≡ get_or (last_bids (length seen) (take i bids)) bid.product None =
    elim c.if-bid-least.branch [
      | then-bid-least w ↦ ap option_copied w.last-is ∙ none_below (length seen) c.bids.judged.least bid.product
          (take i bids) c.bids.invariant.judged.below w.if-bid-least.true
      | else-bid-least+in_ok-last w ↦ ap option_copied w.last-is ∙ w.in_ok-last.ensures.last
    ] in
    fault_found list c.args.prices.now c.args.demands.now bids i c.bids.judged.taken c.bids.invariant.judged.judged
    c.bids-test.true seen (option_copied c.if-bid-least.last)
    c.bid_fault.result same last c.bid_fault.ensures c.in-Some.fault c.in-Some.is

-- the last bid for the product, among those before
last_is : (c : In_default) → option_copied c.if-bid-least.last
    ≡ get_or (last_bids (length c.as_slice-products.result.now) (take c.bids.judged.count c.args.bids.now))
    (get_or c.args.bids.now c.bids.judged.count no_bid).product None
last_is c =
    let bids = c.args.bids.now in
    let i = c.bids.judged.count in
    let bid = get_or bids i no_bid in
    let products = length c.as_slice-products.result.now in
    elim c.if-bid-least.branch [
      | then-bid-least w ↦ ap option_copied w.last-is
          ∙ none_below products c.bids.judged.least bid.product (take i bids) c.bids.invariant.judged.below
          w.if-bid-least.true
      | else-bid-least+in_ok-last w ↦ ap option_copied w.last-is ∙ w.in_ok-last.ensures.last
    ]

-- the bidding units of the last bid are part of the activity so far
held : (c : In_default) (one : Product) → (get_or c.as_slice-products.result.now (get_or c.args.bids.now
    c.bids.judged.count no_bid).product one).units * quantity_of (option_copied c.if-bid-least.last)
    ≤ c.bids.judged.taken
held c one = units_held c.args.setup.now.products c.args.prices.now c.args.demands.now c.args.bids.now
    c.bids.judged.count c.bids.judged.taken c.bids.invariant.judged.judged c.bids-test.true
    c.as_slice-products.result.now (option_copied c.if-bid-least.last) c.bid_fault.result (c.as_slice-products.ensures
    ∙ ap (λ s. s.products) c.setup.view_is) (last_is c) c.bid_fault.ensures c.in_default.is one

pub taken_with-requires-clause-units : goal.taken_with-requires-clause-units
taken_with-requires-clause-units c = search rules

pub taken_with-requires-clause-quantity : goal.taken_with-requires-clause-quantity
taken_with-requires-clause-quantity c = search rules

pub taken_with-requires-clause-taken : goal.taken_with-requires-clause-taken
taken_with-requires-clause-taken c =
    let small = c.bids.invariant.judged.judged.small in
    omega (arith, small, c.requires.few, c.bids-test.true)

pub taken_with-requires-clause-held : goal.taken_with-requires-clause-held
taken_with-requires-clause-held c =
    held (goal.at.taken_with-requires-clause-held c).In_default c.index-products-bid.result

pub judge_maintained-judged-requires-clause-judged : goal.judge_maintained-judged-requires-clause-judged
judge_maintained-judged-requires-clause-judged c =
    let list = c.args.setup.now.products in
    let prices = c.args.prices.now in
    let bids = c.args.bids.now in
    let i = c.bids.judged.count in
    let at = (goal.at.judge_maintained-judged-requires-clause-judged c).In_default in
    let same = c.as_slice-products.ensures ∙ ap (λ s. s.products) c.setup.view_is in
    let row = c.next_from-next.ensures.row ∙ c.bids.invariant.row in
    let here = known list prices c.args.demands.now bids i c.bids.judged.taken c.bids.invariant.judged.judged
    c.bids-test.true c.as_slice-products.result.now (option_copied c.if-bid-least.last) c.bid_fault.result same
    (last_is at) c.bid_fault.ensures c.in_default.is c.index-products-bid.result in
    subst (λ (demands : List ℕ). AreJudgedBelow list prices demands bids (i + 1) c.if-bid-least.least
    c.taken_with.result) (sym row) (record {
      judged = judged_more list prices c.args.demands.now bids i c.bids.judged.taken c.bids.invariant.judged.judged
          c.bids-test.true c.as_slice-products.result.now (option_copied c.if-bid-least.last) c.bid_fault.result same
          (last_is at) c.bid_fault.ensures c.in_default.is c.index-products-bid.result
          c.taken_with.result c.taken_with.ensures.exact c.taken_with.ensures.most;
      below = elim c.if-bid-least.branch [
        | then-bid-least w ↦
            let next : c.if-bid-least.least ≡ (get_or bids i no_bid).product + 1 =
            omega (
              arith,
              w.least-is,
              here,
              ap (λ s. length s.products) c.setup.view_is,
              c.setup.invariant.product_count,
            ) in
            below_more bids i c.bids.judged.least c.if-bid-least.least c.bids-test.true
            (omega (arith, next, w.if-bid-least.true)) (omega (arith, next)) c.bids.invariant.judged.below
        | else-bid-least+in_ok-last w ↦ rw w.least-is (below_more bids i c.bids.judged.least c.bids.judged.least
            c.bids-test.true (omega arith) (omega (arith, w.if-bid-least.false)) c.bids.invariant.judged.below)
      ];
    })

pub bids-preserved : goal.bids-preserved
bids-preserved c =
    let list = c.args.setup.now.products in
    let bids = c.args.bids.now in
    let i = c.bids.judged.count in
    let result = c.judge_maintained-judged.result in
    let same = c.as_slice-products.ensures ∙ ap (λ s. s.products) c.setup.view_is in
    let before = c.next_from-next.ensures.row ∙ c.bids.invariant.row in
    let more : i ≤ result.count = omega (arith, c.judge_maintained-judged.ensures.more) in
    record {
      row = c.judge_maintained-judged.ensures.row ∙ before;
      next = c.judge_maintained-judged.ensures.next;
      judged = subst (λ (demands : List ℕ). AreJudgedBelow list c.args.prices.now demands bids result.count
          result.least result.taken) before c.judge_maintained-judged.ensures.judged;
      table = elim c.if-bid-least.branch [
        | then-bid-least w ↦ rw w.table-is (table_later list bids i result.count _ _ more c.bids.invariant.table)
        | else-bid-least+in_ok-last w ↦ rw w.table-is (table_later list bids i result.count _ _ more
            (subst (λ (ps : List Product). IsTableBefore (length ps) bids i w.earlier_bid.new.table.placed
            w.earlier_bid.new.table.places.items) same w.in_ok-last.ensures.table))
      ];
    }

pub returns-clause-ok : goal.returns-clause-ok
returns-clause-ok c = none_at_fault c.args.setup.now.products c.args.prices.now c.args.demands.now c.args.bids.now
    c.bids.judged.count c.bids.judged.taken c.bids.invariant.judged.judged (omega (arith, c.bids-test.false))

pub returns-clause-taken : goal.returns-clause-taken
returns-clause-taken c = all_taken c.args.setup.now.products c.args.prices.now c.args.demands.now c.args.bids.now
    c.bids.judged.count c.bids.judged.taken c.bids.invariant.judged.judged (omega (arith, c.bids-test.false))
