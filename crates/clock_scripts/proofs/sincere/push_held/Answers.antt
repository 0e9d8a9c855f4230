use Rattle.std.proofs.Common.{◌≡◌, ◌≤◌, ◌-◌, ◌++◌, ℕ, ◌∙◌, sym, ap, subst, length, reverse, take, arith, append-nil}
use Rattle.std.specs.Prelude.{OnOk}
use Rattle.std.proofs.lemmas.List.{length-take}
use Rattle.clock_views.specs.inside.Values.{Adds}
use Rattle.clock_views.proofs.Pushes.{together}
use Rattle.clock_scripts.specs.Sincere.{bid_for}
use Rattle.clock_scripts.specs.inside.Blocks.{block_bids}
use Rattle.clock_scripts.specs.inside.Bodies.{bid_text, bids_text}
use Rattle.clock_scripts.proofs.Leaving.{all_blocks, all_kept, first_never_rise, some_left}
use Rattle.clock_scripts.proofs.TextPieces.{together_ok}
use Rattle.clock_scripts.proofs.sincere.push_held.Goals as goal

pub returns-in_default : goal.returns-in_default
returns-in_default c =
    let text = c.args.text.now.items in
    let next = c.push_bid.new.text.items in
    together_ok text next c.push_bid.result (all_kept c.args.product c.args.held c.args.pair.now c.args.limits.now
    c.min-blocks.result c.requires.falls c.requires.some c.min-blocks.ensures
    (sym c.last_leaving.ensures ∙ c.in_default.is)) (subst (λ (price : ℕ). OnOk c.push_bid.result
    (Adds (bid_text (bid_for c.args.product c.args.held price)) text next)) c.get.ensures.value c.push_bid.ensures)

pub returns : goal.returns
returns c =
    let limits = c.args.limits.now in
    let pair = c.args.pair.now in
    let held = c.args.held in
    let blocks = c.min-blocks.result in
    let list = take blocks limits in
    let text = c.loop-block.text.items in
    let none : 0 ≡ c.loop-block.block = omega arith in
    let count : length list ≡ blocks = omega (arith, length-take blocks limits, c.min-blocks.ensures) in
    let few : length list ≤ held = omega (arith, count, c.min-blocks.ensures) in
    let past : held - length list ≡ held - blocks = omega (arith, count) in
    together (ap bids_text (some_left c.args.product held pair limits blocks _ c.requires.falls c.requires.some
    c.min-blocks.ensures (sym c.last_leaving.ensures ∙ c.in-Some.is)
    ∙ sym (all_blocks c.args.product held pair list (first_never_rise limits blocks c.requires.falls) few)
    ∙ ap (λ (k : ℕ). block_bids c.args.product k pair (reverse list)) past)) (record {
      is = sym (append-nil text) ∙ ap (λ (k : ℕ). text ++ bids_text
          (block_bids c.args.product (held - blocks) pair (reverse (take k limits)))) none ∙ c.loop-block.invariant;
    })
