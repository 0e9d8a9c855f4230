use Rattle.std.proofs.Common.{Some}
use Rattle.clock_views.specs.BidderPages.{bid_value}
use Rattle.clock_views.proofs.Texts.{bids_in_pieces}
use Rattle.clock_scripts.proofs.ArrayLaws.{array_from}
use Rattle.clock_scripts.proofs.TextPieces.{before_ok, together_ok}
use Rattle.clock_scripts.proofs.bodies.end_sheet.Goals as goal

pub returns : goal.returns
returns c = λ old begun bids opened from all.
    let array = array_from bid_value bids begun c.args.text.now.items c.end_array.new.text.items c.args.start from
    all.is c.in_ok-end_array.ensures in
    let result = c.push_label.result in
    together_ok _ _ result (bids_in_pieces c.args.round (Some bids)) (before_ok _ _ result opened
    (before_ok _ _ result array (before_ok _ _ result c.in_ok-push_number.ensures c.push_label.ensures)))
