use Rattle.std.proofs.Common.{◌≡◌, ◌∷◌, length, map, sym, ap, ◌∙◌, subst, arith}
use Rattle.clock_json.specs.Reading.{Token, ReadsValue}
use Rattle.clock_json.specs.inside.Reading.{HasItems}
use Rattle.clock_json.proofs.Steps.{items_start, items_end, items_push_next}
use Rattle.clock_json.proofs.parts.scanned_parts.Goals as goal

pub items-init : goal.items-init
items-init g c =
    let levels = g.R.PartReader.levels in
    let start = c.opens.new.self in (
      subst (λ list. HasItems levels start (map g.R.PartReader.shown list) start)
          (sym (c.from_vec-parts.ensures ∙ c.in_ok-with_room.ensures.items)) (items_start levels start),
      omega arith,
    )

pub items-preserved : goal.items-preserved
items-preserved g c =
    let levels = g.R.PartReader.levels in
    let shown = g.R.PartReader.shown in
    let l = c.items in
    let start = c.opens.new.self in
    let after = c.part.new.scan in
    let next = c.in_ok-next.next in
    let same : c.closes.new.self ≡ l.scan = grind arith in
    let reads : ReadsValue levels l.scan (shown next) after =
    subst (λ ts. ReadsValue levels ts (shown next) after) same c.in_ok-next.ensures.value in (
      subst (λ list. HasItems levels start (map shown list) after) (sym c.in_ok-push.ensures.ok)
          (items_push_next levels shown start l.scan after l.parts next l.invariant.0 reads),
      omega (arith, l.invariant.1, c.in_ok-next.ensures.shorter, ap length same),
    )

pub returns-clause-value : goal.returns-clause-value
returns-clause-value g c =
    let l = c.items in
    let closed : l.scan ≡ Token.end_array ∷ c.closes.new.self = grind arith in
    items_end g.R.PartReader.levels c.args.scan.now c.opens.new.self l.scan c.closes.new.self
    (map g.R.PartReader.shown l.parts) c.in_ok-opens.ensures l.invariant.0 closed
