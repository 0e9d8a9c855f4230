use Rattle.std.proofs.Common.{◌∙◌, Some, None, ap, get_or, length, nat_lt, refl, sym, arith}
use Rattle.std.specs.Prelude.{codes}
use Rattle.clock_bids.specs.declared.sheet.Bid.{Bid}
use Rattle.clock_views.specs.BidderPages.{bid_value}
use Rattle.clock_views.proofs.Lists.{array_between, item_more, items_end}
use Rattle.clock_views.proofs.Pushes.{added, before, headed, refused, together}
use Rattle.clock_views.proofs.Texts.{bid_in_pieces, bids_in_pieces, no_bids_in_pieces}
use Rattle.clock_views.proofs.Rooms.{bids_page_most, some_bids_most}
use Rattle.clock_views.proofs.pages.headed_bids.Goals as goal

pub loop-i-preserved : goal.loop-i-preserved
loop-i-preserved c =
    let none : Bid = record { product = 0; quantity = 0; price = 0 } in
    let bids = c.bids-bids.result.now in
    let bid = get_or bids c.loop-i.i none in
    record {
      adds = item_more bid_value _ _ bids c.loop-i.i bid none c.loop-i-test.true refl
          (before c.push_comma_if.ensures.adds
          (together (bid_in_pieces bid)
          (before c.push_number-in-loop-i.ensures.adds
          (before c.push_number-in-loop-i-2.ensures.adds
          (before c.push_number-in-loop-i-3.ensures.adds (added c.extend_from_slice-in-loop-i.ensures.items))))))
          ∙ c.loop-i.invariant.adds;
      room = omega (
        arith,
        c.loop-i.invariant.room,
        c.push_comma_if.ensures.room,
        c.push_number-in-loop-i.ensures.room,
        c.push_number-in-loop-i-2.ensures.room,
        c.push_number-in-loop-i-3.ensures.room,
        c.extend_from_slice-in-loop-i.ensures.room,
      );
    }

pub returns-in_default : goal.returns-in_default
returns-in_default c =
    rw c.in_default.is
    (headed c.into_items.ensures c.in_ok-text.ensures.head
    (together (no_bids_in_pieces c.args.round)
    (before c.push_number.ensures.adds (added c.extend_from_slice.ensures.items))))

pub returns-in_err-text : goal.returns-in_err-text
returns-in_err-text c = rw c.in_default.is (refused _ _ c.from_residual.result _ c.from_residual.ensures.1
    (c.in_err-text.ensures.refused ∙ sym (bids_page_most c.args.round None)))

pub returns-in_err-text-2 : goal.returns-in_err-text-2
returns-in_err-text-2 c =
    rw c.in-Some.is
    (refused _ _ c.from_residual-in_err-text-2.result _ c.from_residual-in_err-text-2.ensures.1
    (omega (
      arith,
      c.in_err-text-2.ensures.refused,
      some_bids_most c.args.round c.in-Some.sheet.now,
      ap length c.bids-bids.ensures,
    )))

pub returns : goal.returns
returns c =
    let bids = c.bids-bids.result.now in
    let text = c.loop-i.text.items in
    rw (c.in-Some.is, ← c.bids-bids.ensures)
    (headed c.into_items-2.ensures c.in_ok-text-2.ensures.head (together (bids_in_pieces c.args.round (Some bids))
    (array_between bid_value bids (codes "{\"bids\":") refl refl (added c.extend_from_slice-2.ensures.items)
    (items_end bid_value text _ (nat_lt 0 c.loop-i.i) bids c.loop-i.i (omega (arith, c.loop-i-test.false))
    c.loop-i.invariant.adds) (before c.push_number-2.ensures.adds (added c.extend_from_slice-3.ensures.items)))))
