use Rattle.std.proofs.Common.{◌++◌, List, ℕ, codes, subst}
use Rattle.serde_json.specs.Written.{compact_text}
use Rattle.clock_order.specs.declared.ties.Tie.{Tie}
use Rattle.clock_views.specs.Values.{whole, list_of}
use Rattle.clock_views.specs.inside.Values.{Adds}
use Rattle.clock_views.proofs.Pushes.{before}
use Rattle.clock_scripts.specs.RequestTexts.{tie_value}
use Rattle.clock_scripts.specs.inside.RequestTexts.{increments_text}
use Rattle.clock_scripts.proofs.TextPieces.{before_ok, close_in_pieces, together_ok}
use Rattle.clock_scripts.proofs.bodies.push_closing.Goals.{in-Single+in_ok-push_number-in-Single}
use Rattle.clock_scripts.proofs.bodies.push_closing.Goals.{
  in-PerProduct+in_ok-push_label-in-PerProduct+in_ok-push_numbers-in-PerProduct,
}
use Rattle.clock_scripts.proofs.bodies.push_closing.Goals as goal

pub returns : goal.returns
returns c =
    let closing = c.args.closing.now in
    let old = c.args.text.now.items in
    let result = c.push_label-3.result in
    let increments : Adds (increments_text closing.increments) old c.match-closing.text.items =
    elim c.match-closing.branch [
      | in-Single+in_ok-push_number-in-Single w ↦ rw (w.text-is, w.in-Single.is) w.in_ok-push_number-in-Single.ensures
      | in-PerProduct+in_ok-push_label-in-PerProduct+in_ok-push_numbers-in-PerProduct w ↦
          rw (w.text-is, w.in-PerProduct.is)
          (subst (λ (listed : List ℕ). Adds (codes "{\"increments\":" ++ compact_text (list_of whole listed)) old
          w.push_numbers.new.text.items) w.as_slice.ensures
          (before w.in_ok-push_label-in-PerProduct.ensures w.in_ok-push_numbers-in-PerProduct.ensures))
    ] in
    let ties = subst (λ (list : List Tie).
    Adds (compact_text (list_of tie_value list)) c.push_label-2.new.text.items c.push_ties.new.text.items)
    c.as_slice-2.ensures c.in_ok-push_ties.ensures in
    together_ok _ _ result (close_in_pieces c.args.round closing.increments closing.ties)
    (before_ok _ _ result increments
    (before_ok _ _ result c.in_ok-push_number.ensures
    (before_ok _ _ result c.in_ok-push_label.ensures
    (before_ok _ _ result ties c.push_label-3.ensures))))
