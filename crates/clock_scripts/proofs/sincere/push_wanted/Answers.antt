use Rattle.std.proofs.Common.{◌≡◌, ap, append-nil, rules, subst, sym, ◌∙◌, ℕ}
use Rattle.std.specs.Prelude.{OnOk}
use Rattle.clock_views.specs.inside.Values.{Adds}
use Rattle.clock_views.proofs.Pushes.{together}
use Rattle.clock_scripts.specs.Sincere.{bid_for, wanted}
use Rattle.clock_scripts.specs.inside.Bodies.{bid_text, bids_text}
use Rattle.clock_scripts.proofs.SheetWalks.{none_wanted, some_wanted}
use Rattle.clock_scripts.proofs.TextPieces.{together_ok}
use Rattle.clock_scripts.proofs.sincere.push_wanted.Goals as goal

pub returns-then-wanted-eq0 : goal.returns-then-wanted-eq0
returns-then-wanted-eq0 c =
    let pair = c.args.pair.now in
    let list = c.args.limits.now in
    let text = c.args.text.now.items in
    let count : c.count-wanted.result ≡ wanted list c.get-price.result = search rules in
    let none = none_wanted c.args.product pair list c.count-wanted.result
    (count ∙ ap (wanted list) c.get-price.ensures.value) c.if-wanted-eq0.true in
    together (ap bids_text none) (record { is = sym (append-nil text) })

pub returns : goal.returns
returns c =
    let pair = c.args.pair.now in
    let list = c.args.limits.now in
    let text = c.args.text.now.items in
    let next = c.push_bid.new.text.items in
    let count : c.count-wanted.result ≡ wanted list c.get-price.result = search rules in
    let price = c.get-price.ensures.value in
    let some = some_wanted c.args.product pair list c.count-wanted.result (count ∙ ap (wanted list) price)
    c.if-wanted-eq0.false in
    together_ok text next c.push_bid.result some (subst (λ (k : ℕ). OnOk c.push_bid.result
    (Adds (bid_text (bid_for c.args.product c.count-wanted.result k)) text next)) price c.push_bid.ensures)
