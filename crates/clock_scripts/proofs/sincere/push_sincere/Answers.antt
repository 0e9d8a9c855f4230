use Rattle.std.proofs.Common.{◌≡◌, ◌==◌, true, false, List, ℕ, OnOk, ap, refl, subst, ◌∙◌, arith}
use Rattle.std.proofs.lemmas.Bool.{ne_eqb}
use Rattle.clock_house.specs.House.{state_in, holding_in}
use Rattle.clock_views.specs.inside.Values.{Adds}
use Rattle.clock_views.proofs.Pushes.{together}
use Rattle.clock_scripts.specs.RequestTexts.{written_put}
use Rattle.clock_scripts.specs.Sincere.{sincere_sheet}
use Rattle.clock_scripts.specs.inside.Bodies.{bids_text}
use Rattle.clock_scripts.proofs.SheetWalks.{sheet_by}
use Rattle.clock_scripts.proofs.sincere.push_sincere.Goals.{then-own-eq1+in_ok-push_first}
use Rattle.clock_scripts.proofs.sincere.push_sincere.Goals.{else-own-eq1+in_ok-push_later}
use Rattle.clock_scripts.proofs.sincere.push_sincere.Goals as goal

pub returns : goal.returns
returns g c =
    let house = c.args.house.now in
    let lists = c.args.limits.now in
    let prices = c.as_slice-prices.result.now in
    let own = c.own-own.result in
    let begun = c.push_label.new.text in
    let bids = sincere_sheet own.round prices own.demands.now lists in
    let all : Adds (bids_text bids) begun.items c.if-own-eq1.text.items = elim c.if-own-eq1.branch [
      | then-own-eq1+in_ok-push_first w ↦ together (ap bids_text (sheet_by own.round prices own.demands.now lists true
          (ap (λ (k : ℕ). k == 1) w.if-own-eq1.true))) (rw w.text-is w.in_ok-push_first.ensures)
      | else-own-eq1+in_ok-push_later w ↦ together (ap bids_text (sheet_by own.round prices own.demands.now lists false
          (ne_eqb own.round 1 w.if-own-eq1.false))) (rw w.text-is w.in_ok-push_later.ensures)
    ] in
    let round : own.round ≡ (state_in house).round = c.own-own.ensures.round in
    let priced : prices ≡ (state_in house).prices = c.as_slice-prices.ensures ∙ c.prices.ensures c.requires.going in
    let demands : own.demands.now ≡ (holding_in house c.args.bidder).demands = c.own-own.ensures.demands in
    let text : written_put own.round bids
    ≡ written_put (state_in house).round (sincere_sheet (state_in house).round (state_in house).prices
    (holding_in house c.args.bidder).demands lists) =
    rw (round, priced, demands) refl in
    subst (λ (body : List ℕ). OnOk c.end_sheet.result (Adds body c.args.text.now.items c.end_sheet.new.text.items)) text
    (c.end_sheet.ensures c.args.text.now.items begun.items bids c.in_ok-push_label.ensures
    (omega (arith, c.len-start.ensures, begun.ok.0)) all)
