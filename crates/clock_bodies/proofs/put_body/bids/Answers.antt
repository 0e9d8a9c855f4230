-- Each turn of the loop reads a bid and the compact ones that follow it; the list so far grows by these.
use Rattle.std.proofs.Common.{◌≡◌, ◌∷◌, ◌++◌, [], length, map, sym, ap, subst, ◌∙◌, arith}
use Rattle.json.specs.Token.{Token}
use Rattle.clock_json.specs.Reading.{ReadsValue}
use Rattle.clock_json.specs.inside.Reading.{HasItems}
use Rattle.clock_json.proofs.Steps.{all_shorter, items_start, items_end, items_push_next, items_push_all}
use Rattle.clock_bodies.specs.QuickBodies.{bid_data}
use Rattle.clock_bodies.specs.inside.QuickBodies.{bids_data}
use Rattle.clock_bodies.proofs.put_body.bids.Goals as goal

pub items-init : goal.items-init
items-init c =
    let start = c.opens.new.self in
    let here = c.compact_parts.new.self in
    let more = c.in_ok-list.ensures in
    let same = more.1 ∙ ap (λ known. known ++ more.0) c.in_ok-empty.ensures.items in (
      start,
      c.in_ok-opens.ensures,
      subst (λ list. HasItems 1 start (map bid_data list) here) (sym same)
          (items_push_all 1 bid_data start start here [] more.0 (items_start 1 start) more.2),
      omega (arith, all_shorter 1 start (map bid_data more.0) here more.2),
    )

pub items-preserved : goal.items-preserved
items-preserved c =
    let l = c.items in
    let start = l.invariant.0 in
    let same : c.closes.new.self ≡ l.scan = grind arith in
    let next = c.in_ok-next.next in
    let here = c.part.new.scan in
    let new = c.compact_parts-in-items.new.self in
    let more = c.in_ok-list-2.ensures in
    let reads : ReadsValue 1 l.scan (bid_data next) here =
    subst (λ ts. ReadsValue 1 ts (bid_data next) here) same c.in_ok-next.ensures.value in
    let list = more.1 ∙ ap (λ known. known ++ more.0) c.in_ok-push.ensures.items in (
      start,
      l.invariant.1,
      subst (λ list. HasItems 1 start (map bid_data list) new) (sym list)
          (items_push_all 1 bid_data start here new (l.list.items ++ next ∷ []) more.0
          (items_push_next 1 bid_data start l.scan here l.list.items next l.invariant.2 reads) more.2),
      omega (
        arith,
        l.invariant.3,
        c.in_ok-next.ensures.shorter,
        ap length same,
        all_shorter 1 here (map bid_data more.0) new more.2,
      ),
    )

pub items-smaller : goal.items-smaller
items-smaller c =
    let here = c.part.new.scan in
    let more = c.in_ok-list-2.ensures in
    let same : c.closes.new.self ≡ c.items.scan = grind arith in
    omega (
      arith,
      c.in_ok-next.ensures.shorter,
      ap length same,
      all_shorter 1 here (map bid_data more.0) c.compact_parts-in-items.new.self more.2,
    )

pub returns-clause-value : goal.returns-clause-value
returns-clause-value c =
    let l = c.items in
    let old = c.args.scan.now in
    let new = c.closes.new.self in
    let closed : l.scan ≡ Token.end_array ∷ new = grind arith in
    subst (λ list. ReadsValue 2 old (bids_data list) new) (sym c.from_vec.ensures)
    (items_end 1 old l.invariant.0 l.scan new (map bid_data l.list.items) l.invariant.1 l.invariant.2 closed)

pub returns-clause-shorter : goal.returns-clause-shorter
returns-clause-shorter c =
    let l = c.items in
    let closed : l.scan ≡ Token.end_array ∷ c.closes.new.self = grind arith in
    omega (arith, l.invariant.3, ap length l.invariant.1, ap length closed)
