use Rattle.std.proofs.Common.{◌++◌, List, sym, ap, append-nil, ◌∙◌, arith}
use Rattle.std.proofs.lemmas.List.{drop_all}
use Rattle.clock_bids.specs.declared.sheet.Bid.{Bid}
use Rattle.clock_scripts.specs.inside.Bodies.{bids_text}
use Rattle.clock_scripts.proofs.bodies.push_sheet.Goals as goal

pub returns : goal.returns
returns c =
    let bids = c.args.bids.now in
    let text = c.loop-bid.text.items in
    let begun = c.push_label.new.text in
    c.end_sheet.ensures c.args.text.now.items begun.items bids c.in_ok-push_label.ensures
    (omega (arith, c.len-start.ensures, begun.ok.0)) (record {
      is = sym (append-nil text)
          ∙ ap (λ (rest : List Bid). text ++ bids_text rest) (sym (drop_all c.loop-bid.bid-index bids (omega arith)))
          ∙ c.loop-bid.invariant;
    })
