-- Each bid replaces the requested demand for its product, by one within the product's cap.
use Rattle.std.proofs.Common.{◌≡◌, ◌<◌, ◌≤◌, All, length, replicate, ◌∙◌, sym, ap, arith, rules}
use Rattle.std.proofs.Common.{get_or, set, subst}
use Rattle.clock_terms.specs.Limits.{IsProduct, IsRow, SetupFields, cap_of, no_product}
use Rattle.clock_terms.proofs.DemandLaws.{row_kept, zeros_row}
use Rattle.clock_bids.proofs.Tables.{no_bid, asked_demands-nil, asked_demands-more}
use Rattle.clock_bids.proofs.sheet.asked_row.Goals as goal

pub loop-bid-init : goal.loop-bid-init
loop-bid-init c =
    let count : c.len.result ≡ length c.args.setup.now.products =
    c.len.ensures ∙ ap (λ s. length s.products) c.setup.view_is in
    let zeros : c.from_vec-asked.result ≡ replicate (length c.args.setup.now.products) 0 = search (rules, count) in
    record {
      asked = zeros ∙ sym (asked_demands-nil (length c.args.setup.now.products));
      row = subst (IsRow c.args.setup.now.products) (sym zeros) (zeros_row c.args.setup.now.products);
    }

pub set-requires : goal.set-requires
set-requires c = omega (
  arith,
  c.requires.products c.loop-bid.bid-index no_bid c.loop-bid-test.true,
  c.loop-bid.invariant.row.each,
)

pub loop-bid-preserved : goal.loop-bid-preserved
loop-bid-preserved c =
    let products = c.args.setup.now.products in
    let bid = get_or c.args.bids.now c.loop-bid.bid-index no_bid in
    let known : bid.product < length products =
    c.requires.products c.loop-bid.bid-index no_bid c.loop-bid-test.true in
    let capped : bid.quantity ≤ cap_of products bid.product =
    c.requires.capped c.loop-bid.bid-index no_bid c.loop-bid-test.true in
    record {
      asked = c.set.ensures ∙ ap (λ asked. set asked bid.product bid.quantity) c.loop-bid.invariant.asked
          ∙ sym (asked_demands-more (length products) c.args.bids.now c.loop-bid.bid-index c.loop-bid-test.true known);
      row = subst (IsRow products) (sym c.set.ensures)
          (row_kept products c.loop-bid.asked bid.product bid.quantity c.loop-bid.invariant.row capped);
    }

pub overflow_cast-bid : goal.overflow_cast-bid
overflow_cast-bid c =
    let limits : All IsProduct c.args.setup.now.products =
    subst (λ (setup : SetupFields). All IsProduct setup.products) c.setup.view_is c.setup.invariant.products in
    let bid = get_or c.args.bids.now c.loop-bid.bid-index no_bid in
    let good =
    limits bid.product no_product (c.requires.products c.loop-bid.bid-index no_bid c.loop-bid-test.true) in
    let capped = c.requires.capped c.loop-bid.bid-index no_bid c.loop-bid-test.true in
    omega (arith, capped, good.cap.1, good.supply.1)
